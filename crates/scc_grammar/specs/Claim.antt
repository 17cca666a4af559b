-- What is claimed of joined tokens: the file that they are, or the place of their first fault.
use Rattle.std.specs.Prelude.{◌≡◌, ◌⊎◌, List, [], ◌∷◌, Option, None, Result, Ok, Err, unwrap_or}
use Rattle.scc_base.specs.declared.code.Code.{Code}
use Rattle.scc_base.specs.declared.code.Code.TheVariants as code
use Rattle.scc_base.specs.declared.refusal.Place.{Place}
use Rattle.scc_base.specs.declared.refusal.Stop.{Stop}
use Rattle.scc_base.specs.declared.refusal.Stop.TheVariants as stop
use Rattle.scc_tokens.specs.declared.joining.Joined.{Joined}
use Rattle.scc_tree.specs.declared.item.FileTree.{FileTree}
use Rattle.scc_tree.specs.declared.item.Item.{Item}
use Rattle.scc_reading.specs.Claim.{IsRead, IsUnexpected, IsTooDeep}
use Rattle.scc_grammar_terminals.specs.declared.halt.Halt.{Halt}
use Rattle.scc_grammar_terminals.specs.declared.halt.Halt.TheVariants as halt
use Rattle.scc_grammar_spec.specs.Items.{Reads}
use Rattle.scc_grammar_spec.specs.LevelsOfItems.{depth}
use Rattle.scc_grammar_terminals.specs.Text.{Text}
use Rattle.scc_grammar_terminals.specs.View.{seen_all}

abbrev pub text_of : Joined → Text
text_of j = seen_all j.tokens

-- The joined tokens are this file, within the limit.
pub record IsReadFile (j : Joined) (file : FileTree) : Type 0 where
  pub read : IsRead Reads depth (text_of j) file.items
  pub end : file.end ≡ j.end

-- the place of the first token, or the end of the last file
abbrev pub place_at : Text → Place → Place
place_at [] end = end
place_at (t ∷ ts) end = t.place

-- E201 stands at the first token with which no file begins, or at the end; E202 at the first token past the limit; whichever comes first.
abbrev pub IsFault : Joined → Code → Place → Type 0
IsFault j c place =
    (r : Text) × (place ≡ place_at r j.end) × (((c ≡ code.Unexpected) × IsUnexpected Reads depth (text_of j) r) ⊎ ((c ≡ code.TooDeep) × IsTooDeep Reads depth (text_of j) r))

abbrev pub FaultAt : Joined → Stop → Type 0
FaultAt j stop.NoMemory = Unit {0}
FaultAt j (stop.Refused x) = IsFault j x.code x.place × (x.other ≡ None)

-- the answer where the joined tokens are a file of these declarations
abbrev pub ReadsOnly : List Item → Result FileTree Stop → Type 0
ReadsOnly items (Ok file) = file.items ≡ items
ReadsOnly items (Err stop.NoMemory) = Unit {0}
ReadsOnly items (Err (stop.Refused x)) = ⊥

-- the refusal that a halt is
abbrev pub stop_of : Place → Halt → Stop
stop_of end halt.NoMemory = stop.NoMemory
stop_of end (halt.Unexpected place) = stop.Refused (record { code = code.Unexpected; place = unwrap_or place end; other = None })
stop_of end (halt.TooDeep place) = stop.Refused (record { code = code.TooDeep; place = unwrap_or place end; other = None })
