-- Sums of texts, regrouped from the left to the right.
use Rattle.std.proofs.Common.{◌≡◌, ◌++◌, append_assoc, ◌∙◌}
use Rattle.scc_svread_grammar.specs.Lexical.{Bytes}

pub two : (a b r : Bytes) → (a ++ b) ++ r ≡ a ++ (b ++ r)
two a b r = append_assoc a b r

pub three : (a b c r : Bytes) → (a ++ b ++ c) ++ r ≡ a ++ (b ++ (c ++ r))
three a b c r = two (a ++ b) c r ∙ two a b (c ++ r)

pub four : (a b c d r : Bytes) → (a ++ b ++ c ++ d) ++ r ≡ a ++ (b ++ (c ++ (d ++ r)))
four a b c d r = two (a ++ b ++ c) d r ∙ three a b c (d ++ r)

pub five : (a b c d e r : Bytes) → (a ++ b ++ c ++ d ++ e) ++ r ≡ a ++ (b ++ (c ++ (d ++ (e ++ r))))
five a b c d e r = two (a ++ b ++ c ++ d) e r ∙ four a b c d (e ++ r)

pub six : (a b c d e f r : Bytes) → (a ++ b ++ c ++ d ++ e ++ f) ++ r ≡ a ++ (b ++ (c ++ (d ++ (e ++ (f ++ r)))))
six a b c d e f r = two (a ++ b ++ c ++ d ++ e) f r ∙ five a b c d e (f ++ r)

pub seven : (a b c d e f g r : Bytes) → (a ++ b ++ c ++ d ++ e ++ f ++ g) ++ r ≡ a ++ (b ++ (c ++ (d ++ (e ++ (f ++ (g ++ r))))))
seven a b c d e f g r = two (a ++ b ++ c ++ d ++ e ++ f) g r ∙ six a b c d e f (g ++ r)

pub eight : (a b c d e f g h r : Bytes) → (a ++ b ++ c ++ d ++ e ++ f ++ g ++ h) ++ r ≡ a ++ (b ++ (c ++ (d ++ (e ++ (f ++ (g ++ (h ++ r)))))))
eight a b c d e f g h r = two (a ++ b ++ c ++ d ++ e ++ f ++ g) h r ∙ seven a b c d e f g (h ++ r)
