-- What a constructor does is the same, whatever was made when its site was written down.
use Rattle.std.proofs.Common.{◌≡◌, refl, ap, ◌∙◌, ℕ, ◌+◌, false, List, [], ◌∷◌, ◌++◌, map, Option, Some, None, if◌then◌else◌}
use Rattle.scc_semantics.specs.Location.{Part}
use Rattle.scc_semantics.specs.Location as location
use Rattle.scc_core_spec.specs.Resolved.{Tried, Made, and_made, made_map}
use Rattle.scc_elab_spec.specs.Term.{Argument, Left, Index}
use Rattle.scc_elab_spec.specs.Term as term
use Rattle.scc_elab_spec.specs.Program.{Code, End, Declare, Assign, Point, Write, Call, If, Loop, Block, Exit, Return, Wait, Make, Bind, Process, Sensitive, Quiet, Reset, Member}
use Rattle.scc_elab_spec.specs.Design as design
use Rattle.scc_elab_spec.specs.Types.{is_direct}
use Rattle.scc_elab_spec.specs.Bodies.{elements}
use Rattle.scc_elab_spec.specs.Grown.{Grown, added, local_of, with_word, with_target, with_declared}
use Rattle.scc_elab_spec.specs.Binding.{bind, items_of, declare, channel, changed_at, with_items, with_reset}
use Rattle.scc_elab_spec.specs.Inits.{inits_of, first_make, without_make}
use Rattle.scc_elab_spec.specs.Worth.{Site, at_now, spot, worth, target, assigned, given}
use Rattle.scc_elab_spec.specs.Construct.{Making, Now, Ran, Fell, then_run, shut, from_tried, grow, declared_from, sizes_of, point_at, make_at, ends_in_vector, of_last, is_true, looped, choose_of, ran_in, most_turns, ran}
use Rattle.scc_elab_spec.specs.Made.{Building, making, none_given, grown_by, over_elements, elements_at, run_inits, by_arguments, made_member, made_members, run_rest}
use Rattle.std.specs.Prelude.{length, slice_get}

module _ (s : Site) (h : Grown) where
  ends_any : (l : Left) → ends_in_vector (at_now s h) l ≡ ends_in_vector s l
  ends_any (Index l e) = ends_any l
  ends_any (term.Local p n) = refl
  ends_any (term.Answer p n) = refl
  ends_any (term.This p) = refl
  ends_any (term.Follow p l) = refl
  ends_any (term.Member l n) = refl

  declared_any : (n : ℕ) (o : Option Member) (all : List (List ℕ)) (g : Grown) → declared_from (at_now s h) n o all g ≡ declared_from s n o all g
  declared_any n None all g = refl
  declared_any n (Some m) [] g = refl
  declared_any n (Some m) (i ∷ is) g = declared_any n (Some m) is (if is_direct m.shape.reach then with_word g (local_of s.object n (map location.Element i)) 0 else with_target g (local_of s.object n (map location.Element i)) None)

  module _ (t : ℕ) (make : Making) where
    pub ran_any : (c : Code) (n : Now) → ran_in t make (at_now s h) c n ≡ ran_in t make s c n
    ran_any End n = refl
    ran_any (Declare p k r) n = λ i. grow n (Made (declared_any k (slice_get s.function.locals k) (elements (sizes_of (slice_get s.function.locals k))) n.grown i)) (λ m. ran_any r m i)
    ran_any (Assign p l k e r) n = λ i. grow n (assigned (at_now s n.grown) l k e) (λ m. ran_any r m i)
    ran_any (Point p l x r) n = λ i. grow n (and_made (spot (at_now s n.grown) false false l) (λ o. and_made (target (at_now s n.grown) x) (point_at (at_now s n.grown) p o))) (λ m. ran_any r m i)
    ran_any (If p e a b r) n = λ i. from_tried (worth (at_now s n.grown) e) (λ x. then_run (choose_of x (λ m. ran_any a m i) (λ m. ran_any b m i) n) (λ m. ran_any r m i))
    ran_any (Block p b r) n = λ i. shut (ran_any b n i) (λ m. ran_any r m i)
    ran_any (Loop p c (If q e a b turn) r) n = λ i. looped t p (λ n. from_tried (worth (at_now s n.grown) e) (λ x. choose_of x (λ m. ran_any a m i) (λ m. ran_any b m i) n)) (λ m. ran_any turn m i) n
    ran_any (Loop p c End r) n = refl
    ran_any (Loop p c (Declare q k b) r) n = λ i. looped t p Fell (λ m. ran_any (Declare q k b) m i) n
    ran_any (Loop p c (Assign q l k e b) r) n = λ i. looped t p Fell (λ m. ran_any (Assign q l k e b) m i) n
    ran_any (Loop p c (Point q l x b) r) n = λ i. looped t p Fell (λ m. ran_any (Point q l x b) m i) n
    ran_any (Loop p c (Write q l e b) r) n = λ i. looped t p Fell (λ m. ran_any (Write q l e b) m i) n
    ran_any (Loop p c (Call q k f o args b) r) n = λ i. looped t p Fell (λ m. ran_any (Call q k f o args b) m i) n
    ran_any (Loop p c (Loop q d x b) r) n = λ i. looped t p Fell (λ m. ran_any (Loop q d x b) m i) n
    ran_any (Loop p c (Block q x b) r) n = λ i. looped t p Fell (λ m. ran_any (Block q x b) m i) n
    ran_any (Loop p c (Exit q d b) r) n = λ i. looped t p Fell (λ m. ran_any (Exit q d b) m i) n
    ran_any (Loop p c (Return q v b) r) n = λ i. looped t p Fell (λ m. ran_any (Return q v b) m i) n
    ran_any (Loop p c (Wait q k b) r) n = λ i. looped t p Fell (λ m. ran_any (Wait q k b) m i) n
    ran_any (Loop p c (Make q l base args b) r) n = λ i. looped t p Fell (λ m. ran_any (Make q l base args b) m i) n
    ran_any (Loop p c (Bind q port to b) r) n = λ i. looped t p Fell (λ m. ran_any (Bind q port to b) m i) n
    ran_any (Loop p c (Process q x f e b) r) n = λ i. looped t p Fell (λ m. ran_any (Process q x f e b) m i) n
    ran_any (Loop p c (Sensitive q items b) r) n = λ i. looped t p Fell (λ m. ran_any (Sensitive q items b) m i) n
    ran_any (Loop p c (Quiet q b) r) n = λ i. looped t p Fell (λ m. ran_any (Quiet q b) m i) n
    ran_any (Loop p c (Reset q x e a b) r) n = λ i. looped t p Fell (λ m. ran_any (Reset q x e a b) m i) n
    ran_any (Exit p d r) n = refl
    ran_any (Make p l base args r) n = λ i. grow n (and_made (spot (at_now s n.grown) false false l) (make_at make (at_now s n.grown) p base (ends_any l i) args)) (λ m. ran_any r m i)
    ran_any (Bind p port to r) n = λ i. grow n (bind (at_now s n.grown) p port to) (λ m. ran_any r m i)
    ran_any (Process p x f e r) n = λ i. from_tried (declare (at_now s n.grown) p x f e) (λ g. ran_any r (record { grown = g; last = Some (length n.grown.declared) }) i)
    ran_any (Sensitive p items r) n = λ i. of_last p n (λ k. grow n (made_map (λ is. with_declared n.grown (changed_at k (with_items is) n.grown.declared)) (items_of (at_now s n.grown) items)) (λ m. ran_any r m i))
    ran_any (Quiet p r) n = λ i. of_last p n (λ k. ran_any r n i)
    ran_any (Reset p x e a r) n = λ i. of_last p n (λ k. grow n (and_made (channel (at_now s n.grown) x) (λ c. made_map
        (λ w. with_declared n.grown (changed_at k (with_reset (record { place = p; signal = c; level = is_true w; asynchronous = a })) n.grown.declared)) (worth (at_now s n.grown) e))) (λ m. ran_any r m i))
    ran_any (Write p l e r) n = refl
    ran_any (Call p k f o args r) n = refl
    ran_any (Return p v r) n = refl
    ran_any (Wait p k r) n = refl

  module _ (build : Building) where
    inits_any : (c : Code) (g : Grown) → run_inits (making build) (at_now s h) c g ≡ run_inits (making build) s c g
    inits_any c g = ap grown_by (ran_any most_turns (making build) c (record { grown = g; last = None }))

    arguments_any : (m : Member) (path : List Part) (c : Code) (o : Option (List Argument)) (g : Grown) → by_arguments build (at_now s h) m path c o g ≡ by_arguments build s m path c o g
    arguments_any m path c None g = λ i. and_made (over_elements (λ g q. making build g q m.place m.shape.base m.shape.vector none_given) (elements_at path m.shape.sizes) g) (λ g. inits_any c g i)
    arguments_any m path c (Some args) g = λ i. and_made (inits_any (without_make c) g i) (λ g.
        over_elements (λ g q. making build g q m.place m.shape.base m.shape.vector (λ g. given (at_now s g) args)) (elements_at path m.shape.sizes) g)

    member_any : (m : Member) (path : List Part) (c : Code) (g : Grown) → made_member build (at_now s h) m path c g ≡ made_member build s m path c g
    member_any m path c g = λ i. if is_direct m.shape.reach then arguments_any m path (c) (first_make c) g i
        else and_made (over_elements (λ g q. added g q m.place (design.Pointer None)) (elements_at path m.shape.sizes) g) (λ g. inits_any c g i)

    pub members_any : (n : ℕ) (ms : List Member) (c : Code) (g : Grown) → made_members build (at_now s h) n ms c g ≡ made_members build s n ms c g
    members_any n [] c g = refl
    members_any n (m ∷ ms) c g = λ i. and_made (member_any m (s.path ++ location.Member m.name ∷ []) (inits_of (Some n) c) g i) (λ g. members_any (n + 1) ms c g i)

    pub rest_any : (a b : Code) (g : Grown) → run_rest (making build) (at_now s h) a b g ≡ run_rest (making build) s a b g
    rest_any a b g = λ i. grown_by (then_run (ran_any most_turns (making build) a (record { grown = g; last = None }) i) (λ m. ran_any most_turns (making build) b m i))
