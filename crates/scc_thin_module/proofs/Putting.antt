-- What the method of a thin text writes.
use Rattle.std.proofs.Common.{◌≡◌, ℕ, zero, suc, ◌<◌, ◌≤◌, List, [], ◌∷◌, ◌++◌, map, length, false, Option, Some, None, option_map, ap, refl, sym, ◌∙◌, arith, append_assoc, append-nil, pos}
use Rattle.scc_bits_kinds.specs.declared.kind.Kind.TheVariants as kind
use Rattle.scc_bits_kinds.specs.Numbers.{low}
use Rattle.scc_bits_kinds.specs.Operators.{exact}
use Rattle.scc_bits_kinds.specs.Kinds.{stored, number_of}
use Rattle.scc_bits.specs.Values.{applied, kind_of}
use Rattle.scc_semantics.specs.Location.{Location}
use Rattle.scc_semantics.specs.Places.{Signal, Places}
use Rattle.scc_semantics.specs.Expressions.{Convert, Whole}
use Rattle.scc_semantics.specs.Store.{Request}
use Rattle.scc_semantics.specs.Scene.{Names, Scene, sensed, kind_or}
use Rattle.scc_semantics.specs.Body.{Body}
use Rattle.scc_semantics.specs.Value.{Held, value, put_at}
use Rattle.scc_semantics.specs.Machine.{Inner, Stop, Go, Outcome, Ended, Unfinished, run, unless_stuck}
use Rattle.scc_thin.specs.declared.design.Port.{Port}
use Rattle.scc_thin.specs.declared.design.Put.{Put}
use Rattle.scc_thin.specs.declared.design.Second.{Second}
use Rattle.scc_thin.specs.declared.design.Bitwise.{Bitwise}
use Rattle.scc_thin.specs.declared.design.Bitwise.TheVariants as bitwise
use Rattle.scc_thin_module.specs.Emitted.{width_of}
use Rattle.scc_thin_module.specs.Source.{member, top, thing_at, op_of, written_of, body_of}

pub thing_is : (ports : List Port) (i : ℕ) → i < length ports → thing_at ports (member i) ≡ Some (Signal (kind.Uint (width_of ports i)))
thing_is [] i h = absurd (omega arith)
thing_is (p ∷ ps) zero h = refl
thing_is (p ∷ ps) (suc i) h = thing_is ps i (omega arith)

-- the word of an operator in 64 bits
abbrev pub joint : Bitwise → ℕ → ℕ → ℕ
joint o x y = low 64 (exact (op_of o) 64 (pos (low 64 (pos x))) (pos (low 64 (pos y))))

-- the word of a written value, where the ports have these words
abbrev pub word_of : (ℕ → ℕ) → ℕ → Option Second → ℕ
word_of x first None = x first
word_of x first (Some s) = joint s.op (x first) (x s.port)

-- the word that a write gives its output
abbrev pub put_word : List Port → (ℕ → ℕ) → Put → ℕ
put_word ports x p = low (width_of ports p.target) (pos (word_of x p.first p.second))

abbrev pub SecondWithin : ℕ → Option Second → Type 0
SecondWithin n None = Unit {0}
SecondWithin n (Some s) = s.port < n

-- the ports that a write names are there
abbrev pub Within : ℕ → Put → Type 0
Within n p = (p.target < n) × (p.first < n) × SecondWithin n p.second

abbrev pub AllWithin : ℕ → List Put → Type 0
AllWithin n [] = Unit {0}
AllWithin n (p ∷ ps) = Within n p × AllWithin n ps

abbrev pub the_names : Names
the_names = record { process = 0; calls = []; object = Some top }

-- the value of an operator on two ports, converted to an output
abbrev converted_value : Bitwise → (w a b x y : ℕ) → Option ℕ
converted_value o w a b x y =
    option_map (λ v. stored (kind.Uint w) (number_of (kind_or (kind_of (op_of o) (kind.Uint a) (kind.Uint b))) v)) (applied (op_of o) (kind.Uint a) x (kind.Uint b) y)

joint_is : (o : Bitwise) (w a b x y : ℕ) → converted_value o w a b x y ≡ Some (low w (pos (joint o x y)))
joint_is bitwise.And w a b x y = refl
joint_is bitwise.Or w a b x y = refl
joint_is bitwise.Xor w a b x y = refl

-- requests, one for each write
abbrev pub request : List Port → (ℕ → ℕ) → Put → Request
request ports x p = record { root = member p.target; word = put_word ports x p }

module _ (ports : List Port) (functions : ℕ → Body) (signals : Location → ℕ) where
  abbrev pub the_places : Places
  the_places = record { things = thing_at ports; pointers = λ l. false }

  abbrev pub words : ℕ → ℕ
  words i = signals (member i)

  abbrev pub the_scene : Held → Scene
  the_scene h = record { places = the_places; signals = signals; names = the_names; store = h.store }

  sensed_is : (i : ℕ) → i < length ports → sensed (thing_at ports (member i)) signals (member i) ≡ words i
  sensed_is i b = ap (λ t. sensed t signals (member i)) (thing_is ports i b)

  value_written : (h : Held) (w first : ℕ) (s : Option Second) → first < length ports → SecondWithin (length ports) s
      → value (the_scene h) (Convert (kind.Uint w) (written_of ports first s)) ≡ Some (low w (pos (word_of words first s)))
  value_written h w first None b c = ap (λ x. Some (low w (pos x))) (sensed_is first b)
  value_written h w first (Some s) b c =
      ap (λ x. converted_value s.op w (width_of ports first) (width_of ports s.port) x (sensed (thing_at ports (member s.port)) signals (member s.port))) (sensed_is first b)
      ∙ ap (λ y. converted_value s.op w (width_of ports first) (width_of ports s.port) (words first) y) (sensed_is s.port c)
      ∙ joint_is s.op w (width_of ports first) (width_of ports s.port) (words first) (words s.port)

  abbrev runs : ℕ → List Put → Held → Outcome
  runs n puts h = run the_places functions signals n (Go Inner the_names (body_of ports puts) Stop) h

  abbrev asked : Held → Put → Held
  asked h p = record { store = h.store; requests = h.requests ++ request ports words p ∷ [] }

  -- a write takes one step
  one_write : (n : ℕ) (p : Put) (puts : List Put) (h : Held) → Within (length ports) p → runs (suc n) (p ∷ puts) h ≡ runs n puts (asked h p)
  one_write n p puts h w =
      ap (λ v. unless_stuck h v (λ x. unless_stuck h (put_at (thing_at ports (member p.target)) (the_scene h) h (member p.target) Whole x) (runs n puts)))
      (value_written h (width_of ports p.target) p.first p.second w.1 w.2)
      ∙ ap (λ t. unless_stuck h (put_at t (the_scene h) h (member p.target) Whole (put_word ports words p)) (runs n puts)) (thing_is ports p.target w.0)

  -- the method asks for its writes, in order
  pub method_runs : (n : ℕ) (puts : List Put) (h : Held) → AllWithin (length ports) puts → length puts ≤ n
      → runs n puts h ≡ Ended (record { store = h.store; requests = h.requests ++ map (request ports words) puts })
  method_runs zero [] h a b = ap (λ r. Ended (record { store = h.store; requests = r })) (sym (append-nil h.requests))
  method_runs zero (p ∷ puts) h a b = absurd (omega arith)
  method_runs (suc n) [] h a b = ap (λ r. Ended (record { store = h.store; requests = r })) (sym (append-nil h.requests))
  method_runs (suc n) (p ∷ puts) h a b =
      one_write n p puts h a.0 ∙ method_runs n puts (asked h p) a.1 (omega arith)
      ∙ ap (λ r. Ended (record { store = h.store; requests = r })) (append_assoc h.requests (request ports words p ∷ []) (map (request ports words) puts))

  -- with fewer statements than it has, it isn't finished
  pub method_stops : (n : ℕ) (puts : List Put) (h : Held) → AllWithin (length ports) puts → n < length puts → runs n puts h ≡ Unfinished
  method_stops n [] h a b = absurd (omega arith)
  method_stops zero (p ∷ puts) h a b = refl
  method_stops (suc n) (p ∷ puts) h a b = one_write n p puts h a.0 ∙ method_stops n puts (asked h p) a.1 (omega arith)
