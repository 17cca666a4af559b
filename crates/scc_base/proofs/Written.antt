-- One more piece of the bytes was written.
use Rattle.std.proofs.Common.{◌≡◌, ◌+◌, ◌-◌, ℕ, List, length, take, drop, Option, subst, sym, ap, ◌∙◌}
use Rattle.std.proofs.Math.Seq.{take-add}
use Rattle.std.proofs.lemmas.List.{drop-drop, take_rest}
use Rattle.std.proofs.KnownBytes.{Appends-trans}
use Rattle.std.specs.Io.KnownBytes.{Appends}

-- so much was written of the bytes, and this rest is left
pub record Wrote (old new : Option (List ℕ)) (bytes rest : List ℕ) : Type 0 where
  pub count : ℕ
  pub left : rest ≡ drop count bytes
  pub written : Appends old new (take count bytes)

pub wrote_more : (a b c : Option (List ℕ)) (bytes rest : List ℕ) (m : ℕ) → Wrote a b bytes rest → Appends b c (take m rest)
    → Wrote a c bytes (take (length rest - m) (drop m rest))
wrote_more a b c bytes rest m w p = record {
  count = w.count + m;
  left = take_rest rest m ∙ ap (drop m) w.left ∙ drop-drop m w.count bytes;
  written = subst (Appends a c) (sym (take-add w.count m bytes))
      (Appends-trans a b c (take w.count bytes) (take m (drop w.count bytes)) w.written (subst (λ l. Appends b c (take m l)) w.left p));
}
