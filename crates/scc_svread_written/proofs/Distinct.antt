-- The names of a module without faults differ, so they stay as they are where each is taken once.
use Rattle.std.proofs.Common.{◌≡◌, Bool, true, false, ◌||◌, cond, List, [], ◌∷◌, ◌++◌, refl, sym, ap, ◌∙◌}
use Rattle.std.specs.Prelude.{bytes_eq}
use Rattle.std.specs.List.{list_any}
use Rattle.std.proofs.Common.{append_assoc, append-nil}
use Rattle.scc_svtree.specs.declared.module.SvVar.{SvVar}
use Rattle.scc_svtree.specs.Sound.{Each, IsNotNamed, AreNamed}
use Rattle.scc_svread_grammar.specs.Lexical.{Bytes}
use Rattle.scc_svread_check.specs.Mentioned.{with_name}
use Rattle.scc_svread_written.specs.Resolved.{with_names}
use Rattle.scc_svread_written.proofs.Leaves.{bare_names, other_bytes}

IsNew : List Bytes → SvVar → Type 0
IsNew before v = list_any (bytes_eq v.name) before ≡ false

any_append : (p : Bytes → Bool) (xs ys : List Bytes) → list_any p (xs ++ ys) ≡ (list_any p xs || list_any p ys)
any_append p [] ys = refl
any_append p (x ∷ xs) ys = ap (λ b. p x || b) (any_append p xs ys) ∙ go (p x) (list_any p xs) (list_any p ys)
  where
    go : (a b c : Bool) → (a || (b || c)) ≡ ((a || b) || c)
    go true b c = refl
    go false b c = refl

-- a further name is none of those behind it
still_new : (before : List Bytes) (name : Bytes) (vs : List SvVar) → IsNotNamed name vs → Each (λ v. list_any (bytes_eq v.name) before ≡ false) vs → Each (λ v. list_any (bytes_eq v.name) (before ++ name ∷ []) ≡ false) vs
still_new before name [] h k = tt
still_new before name (v ∷ vs) h k = (
  any_append (bytes_eq v.name) before (name ∷ []) ∙ ap (λ t. t || (bytes_eq v.name name || false)) k.0 ∙ ap (λ t. t || false) (other_bytes v.name name (λ e. h.0 (sym e))),
  still_new before name vs h.1 k.1,
)

kept : (before : List Bytes) (vs : List SvVar) → AreNamed vs → Each (λ v. list_any (bytes_eq v.name) before ≡ false) vs → with_names before (bare_names vs) ≡ before ++ bare_names vs
kept before [] a h = sym (append-nil before)
kept before (v ∷ vs) a h =
    ap (λ t. with_names (cond t before (before ++ v.name ∷ [])) (bare_names vs)) h.0
    ∙ kept (before ++ v.name ∷ []) vs a.2 (still_new before v.name vs a.1 h.1) ∙ append_assoc before (v.name ∷ []) (bare_names vs)

all_new : (vs : List SvVar) → Each (λ v. list_any (bytes_eq v.name) [] ≡ false) vs
all_new [] = tt
all_new (v ∷ vs) = (refl, all_new vs)

pub names_kept : (vs : List SvVar) → AreNamed vs → with_names [] (bare_names vs) ≡ bare_names vs
names_kept vs a = kept [] vs a (all_new vs)

pub names_after : (before xs ys : List Bytes) → with_names (with_names before xs) ys ≡ with_names before (xs ++ ys)
names_after before [] ys = refl
names_after before (x ∷ xs) ys = names_after (with_name before x) xs ys
