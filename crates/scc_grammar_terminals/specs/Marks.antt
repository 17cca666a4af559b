-- Which terminal a token is, as a test.
use Rattle.std.specs.Prelude.{Bool, true, false}
use Rattle.scc_grammar_terminals.specs.declared.terminal.Terminal.{Terminal}
use Rattle.scc_grammar_terminals.specs.declared.terminal.Terminal.TheVariants as t

abbrev pub text : Terminal → Bool
text t.Text = true
text _ = false

abbrev pub int : Terminal → Bool
int t.Int = true
int _ = false

abbrev pub short : Terminal → Bool
short t.Short = true
short _ = false

abbrev pub char : Terminal → Bool
char t.Char = true
char _ = false

abbrev pub constant : Terminal → Bool
constant t.Const = true
constant _ = false

abbrev pub void_word : Terminal → Bool
void_word t.Void = true
void_word _ = false

abbrev pub class_word : Terminal → Bool
class_word t.Class = true
class_word _ = false

abbrev pub struct_word : Terminal → Bool
struct_word t.Struct = true
struct_word _ = false

abbrev pub typename : Terminal → Bool
typename t.Typename = true
typename _ = false

abbrev pub enum_word : Terminal → Bool
enum_word t.Enum = true
enum_word _ = false

abbrev pub typedef_word : Terminal → Bool
typedef_word t.Typedef = true
typedef_word _ = false

abbrev pub template_word : Terminal → Bool
template_word t.Template = true
template_word _ = false

abbrev pub using_word : Terminal → Bool
using_word t.Using = true
using_word _ = false

abbrev pub namespace : Terminal → Bool
namespace t.Namespace = true
namespace _ = false

abbrev pub library : Terminal → Bool
library t.Library = true
library _ = false

abbrev pub static_word : Terminal → Bool
static_word t.Static = true
static_word _ = false

abbrev pub inline_word : Terminal → Bool
inline_word t.Inline = true
inline_word _ = false

abbrev pub explicit_word : Terminal → Bool
explicit_word t.Explicit = true
explicit_word _ = false

abbrev pub public_word : Terminal → Bool
public_word t.Public = true
public_word _ = false

abbrev pub hidden : Terminal → Bool
hidden t.Hidden = true
hidden _ = false

abbrev pub module_word : Terminal → Bool
module_word t.Module = true
module_word _ = false

abbrev pub module_base : Terminal → Bool
module_base t.ModuleBase = true
module_base _ = false

abbrev pub constructor : Terminal → Bool
constructor t.Constructor = true
constructor _ = false

abbrev pub has_process : Terminal → Bool
has_process t.HasProcess = true
has_process _ = false

abbrev pub clocked_thread : Terminal → Bool
clocked_thread t.ClockedThread = true
clocked_thread _ = false

abbrev pub sensitive : Terminal → Bool
sensitive t.Sensitive = true
sensitive _ = false

abbrev pub dont_initialize : Terminal → Bool
dont_initialize t.DontInitialize = true
dont_initialize _ = false

abbrev pub if_word : Terminal → Bool
if_word t.If = true
if_word _ = false

abbrev pub else_word : Terminal → Bool
else_word t.Else = true
else_word _ = false

abbrev pub switch_word : Terminal → Bool
switch_word t.Switch = true
switch_word _ = false

abbrev pub case_word : Terminal → Bool
case_word t.Case = true
case_word _ = false

abbrev pub default_word : Terminal → Bool
default_word t.Default = true
default_word _ = false

abbrev pub while_word : Terminal → Bool
while_word t.While = true
while_word _ = false

abbrev pub do_word : Terminal → Bool
do_word t.Do = true
do_word _ = false

abbrev pub for_word : Terminal → Bool
for_word t.For = true
for_word _ = false

abbrev pub break_word : Terminal → Bool
break_word t.Break = true
break_word _ = false

abbrev pub continue_word : Terminal → Bool
continue_word t.Continue = true
continue_word _ = false

abbrev pub return_word : Terminal → Bool
return_word t.Return = true
return_word _ = false

abbrev pub wait_word : Terminal → Bool
wait_word t.Wait = true
wait_word _ = false

abbrev pub new_word : Terminal → Bool
new_word t.New = true
new_word _ = false

abbrev pub static_cast : Terminal → Bool
static_cast t.StaticCast = true
static_cast _ = false

abbrev pub concat : Terminal → Bool
concat t.Concat = true
concat _ = false

abbrev pub brace_open : Terminal → Bool
brace_open t.BraceOpen = true
brace_open _ = false

abbrev pub brace_close : Terminal → Bool
brace_close t.BraceClose = true
brace_close _ = false

abbrev pub paren_open : Terminal → Bool
paren_open t.ParenOpen = true
paren_open _ = false

abbrev pub paren_close : Terminal → Bool
paren_close t.ParenClose = true
paren_close _ = false

abbrev pub bracket_close : Terminal → Bool
bracket_close t.BracketClose = true
bracket_close _ = false

abbrev pub less : Terminal → Bool
less t.Less = true
less _ = false

abbrev pub greater : Terminal → Bool
greater t.Greater = true
greater _ = false

abbrev pub semicolon : Terminal → Bool
semicolon t.Semicolon = true
semicolon _ = false

abbrev pub comma : Terminal → Bool
comma t.Comma = true
comma _ = false

abbrev pub colon : Terminal → Bool
colon t.Colon = true
colon _ = false

abbrev pub scope : Terminal → Bool
scope t.Scope = true
scope _ = false

abbrev pub question : Terminal → Bool
question t.Question = true
question _ = false

abbrev pub assign : Terminal → Bool
assign t.Assign = true
assign _ = false

abbrev pub shift_left : Terminal → Bool
shift_left t.ShiftLeft = true
shift_left _ = false

abbrev pub shift_right : Terminal → Bool
shift_right t.ShiftRight = true
shift_right _ = false

abbrev pub star_mark : Terminal → Bool
star_mark t.Star = true
star_mark _ = false

abbrev pub and_mark : Terminal → Bool
and_mark t.And = true
and_mark _ = false

abbrev pub bracket_open : Terminal → Bool
bracket_open t.BracketOpen = true
bracket_open _ = false

abbrev pub not_brace_close : Terminal → Bool
not_brace_close t.BraceClose = false
not_brace_close _ = true
