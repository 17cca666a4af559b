-- Sums of tests.
use Rattle.std.proofs.Common.{◌≡◌, Bool, true, false, refl, sym, ap, ◌∙◌}
use Rattle.std.specs.Prelude.{◌||◌, ◌&&◌, not}

pub or_true : (b : Bool) → (b || true) ≡ true
or_true true = refl
or_true false = refl

pub or_false : (b : Bool) → (b || false) ≡ b
or_false true = refl
or_false false = refl

pub and_false : (b : Bool) → (b && false) ≡ false
and_false true = refl
and_false false = refl

pub and_true : (b : Bool) → (b && true) ≡ b
and_true true = refl
and_true false = refl

pub none_of : (a b : Bool) → a ≡ false → b ≡ false → (a || b) ≡ false
none_of a b h k = ap (λ z. z || b) h ∙ k

pub at_end : (b n l : Bool) → l ≡ false → ((b && n) || l) ≡ (b && n)
at_end b n l h = ap (λ z. (b && n) || z) h ∙ or_false (b && n)

pub put_told : (b r a n e f : Bool) → (e || f) ≡ ((b && not a) && n) → (((b && r) || e) || f) ≡ (b && (r || (not a && n)))
put_told true true a n e f h = refl
put_told true false a n e f h = h
put_told false r a n e f h = h

pub aim_told : (b r n e f : Bool) → (e || f) ≡ (b && n) → (((b && r) || e) || f) ≡ (b && (r || n))
aim_told true true n e f h = refl
aim_told true false n e f h = h
aim_told false r n e f h = h

gathered : (r ea eb e g la lb l : Bool) → ((r || (ea || (eb || e))) || (g || ((la || lb) || l))) ≡ (r || ((ea || la) || ((eb || lb) || (e || (g || l)))))
gathered true ea eb e g la lb l = refl
gathered false true eb e g la lb l = refl
gathered false false eb e g true lb l = ap (λ z. (eb || e) || z) (or_true g) ∙ or_true (eb || e)
gathered false false true e g false lb l = refl
gathered false false false e g false true l = ap (λ z. e || z) (or_true g) ∙ or_true e
gathered false false false e g false false l = refl

all_true : (la eb lb r : Bool) → r ≡ true → (la || ((eb || lb) || true)) ≡ r
all_true la eb lb r h = ap (λ z. la || z) (or_true (eb || lb)) ∙ or_true la ∙ sym h

no_more : (la eb lb : Bool) → (la || ((eb || lb) || false)) ≡ (la || (eb || lb))
no_more la eb lb = ap (λ z. la || z) (or_false (eb || lb))

spread : (ea la eb lb a b n : Bool) → ((ea || la) || ((eb || lb) || ((a || b) && n))) ≡ ((ea || ((a && n) || la)) || (eb || ((b && n) || lb)))
spread true la eb lb a b n = refl
spread false la eb lb false false n = no_more la eb lb
spread false la eb lb false true true = all_true la eb lb _ (ap (λ z. la || z) (or_true eb) ∙ or_true la)
spread false la eb lb false true false = no_more la eb lb
spread false la eb lb true b true = all_true la eb lb _ refl
spread false la eb lb true true false = no_more la eb lb
spread false la eb lb true false false = no_more la eb lb

shared : (b r x y : Bool) → ((b && r) || ((b && x) || (b && y))) ≡ (b && (r || (x || y)))
shared true r x y = refl
shared false r x y = refl

pub if_told : (b r fa fb n na nb ea la eb lb e g l : Bool) → (e || (g || l)) ≡ ((fa || fb) && n) → (ea || ((fa && n) || la)) ≡ (b && na) → (eb || ((fb && n) || lb)) ≡ (b && nb)
    → (((b && r) || (ea || (eb || e))) || (g || ((la || lb) || l))) ≡ (b && (r || (na || nb)))
if_told b r fa fb n na nb ea la eb lb e g l hr ha hb =
    gathered (b && r) ea eb e g la lb l
    ∙ ap (λ z. (b && r) || ((ea || la) || ((eb || lb) || z))) hr
    ∙ ap (λ z. (b && r) || z) (spread ea la eb lb fa fb n)
    ∙ ap (λ z. (b && r) || (z || (eb || ((fb && n) || lb)))) ha
    ∙ ap (λ z. (b && r) || ((b && na) || z)) hb
    ∙ shared b r na nb

gathered_block : (eb e g lb l : Bool) → ((eb || e) || (g || (lb || l))) ≡ ((eb || lb) || (e || (g || l)))
gathered_block true e g lb l = refl
gathered_block false e g true l = ap (λ z. e || z) (or_true g) ∙ or_true e
gathered_block false e g false l = refl

spread_block : (eb lb f o n : Bool) → ((eb || lb) || ((f || o) && n)) ≡ (eb || ((f && n) || ((o && n) || lb)))
spread_block true lb f o n = refl
spread_block false lb false false n = or_false lb
spread_block false lb false true true = or_true lb
spread_block false lb false true false = or_false lb
spread_block false lb true o true = or_true lb
spread_block false lb true true false = or_false lb
spread_block false lb true false false = or_false lb

pub block_told : (x f o n eb lb e g l : Bool) → (e || (g || l)) ≡ ((f || o) && n) → (eb || ((f && n) || ((o && n) || lb))) ≡ x → ((eb || e) || (g || (lb || l))) ≡ x
block_told x f o n eb lb e g l hr hb = gathered_block eb e g lb l ∙ ap (λ z. (eb || lb) || z) hr ∙ spread_block eb lb f o n ∙ hb
