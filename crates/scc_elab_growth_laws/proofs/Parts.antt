-- What the parts of statements change.
use Rattle.std.proofs.Common.{◌≡◌, ℕ, ◌+◌, ◌≤◌, ◌<◌, Bool, true, false, not, ◌&&◌, ◌||◌, nat_le, nat_lt, List, [], ◌∷◌, ◌++◌, map, length, Option, Some, None, option_and_then, slice_get, is_some, if◌then◌else◌, refl, ap, sym, ◌∙◌, subst, arith}
use Rattle.scc_base.specs.declared.refusal.Place.{Place}
use Rattle.scc_base.specs.declared.code.Code.TheVariants as reason
use Rattle.scc_bits_kinds.specs.declared.kind.Kind.{Kind}
use Rattle.scc_semantics.specs.Location.{Location, Part, Element, Root, Top, Local, Answer}
use Rattle.scc_core_spec.specs.First.{refused}
use Rattle.scc_core_spec.specs.Resolved.{Tried, Made, Stopped, and_made, made_map}
use Rattle.scc_elab_spec.specs.Term.{Term, Left, Pick, Target}
use Rattle.scc_elab_spec.specs.Program.{Plain, Member, Sense}
use Rattle.scc_elab_spec.specs.Types.{is_direct}
use Rattle.scc_elab_spec.specs.Design.{Object, Node, Module, Port, Signal, Variable, Pointer}
use Rattle.scc_elab_spec.specs.Grown.{Grown, Bound, Item, is_pointer, added, bits_of, local_of, node_of, pointer_at, thing_at, with_word, with_target, with_bound, with_declared}
use Rattle.scc_elab_spec.specs.Worth.{Site, spot, worth, target, kind_there, put_word, put_at, bit_given, assigned, local_there}
use Rattle.scc_elab_spec.specs.Construct.{declared_from, is_local, pointed, point_at}
use Rattle.scc_elab_spec.specs.Binding.{home, is_top, path_of, may_bind, bound_of, binding, bound_thing, bind_at, bind, is_channel, channel_if, channel, item_of, items_of, edge_items, may_run, runs_already, declare}
use Rattle.scc_elab_spec.proofs.Chains.{made_same, and_made-is, made_map-is, and-first, and-second}
use Rattle.scc_elab_growth_laws.specs.Changes.{Word, Aim, Bind, Process, Add, with_object, IsAllowed, LeadsWell, IsModule, IsChannel, AllChannels, IsNew, Grows}
use Rattle.scc_elab_growth_laws.specs.Sites.{points, points_in, IsOf}
use Rattle.scc_elab_growth_laws.proofs.Sites.{kind-ours, points-ours}
use Rattle.scc_elab_growth_laws.specs.Apart.{IsApart}
use Rattle.scc_elab_growth_laws.proofs.Growth.{grows-one}
use Rattle.scc_elab_growth_laws.proofs.Keeping.{Keeps, KeepsTo, Adds, Calm, CalmTo, IsWhole, apart-more, calm, calm-same, calm-then, calm-and, calm-map}
use Rattle.scc_elab_growth_laws.proofs.Placing.{IsPlace, IsEmpty, Solid, Within, solid-added, pointer-added}

not_true : (b : Bool) → not b ≡ false → b ≡ true
not_true true e = refl
not_true false e = cc

or-first : (a b : Bool) → (a || b) ≡ false → a ≡ false
or-first true b e = cc
or-first false b e = refl

or-second : (a b : Bool) → (a || b) ≡ false → b ≡ false
or-second true b e = cc
or-second false b e = e

-- a local begins as 0 or null
pub declared-grows : (p : Plain) (s : Site) (n : ℕ) (m : Option Member) (all : List (List ℕ)) (g : Grown) → Calm p g (declared_from s n m all g)
declared-grows p s n None all g = calm-same p g
declared-grows p s n (Some m) [] g = calm-same p g
declared-grows p s n (Some m) (i ∷ is) g = by (is_direct m.shape.reach) (λ h. declared-grows p s n (Some m) is h)
  where
    l : Location
    l = local_of s.object n (map Element i)

    by : (b : Bool) → ((h : Grown) → Calm p h (declared_from s n (Some m) is h)) → Calm p g (declared_from s n (Some m) is (if b then with_word g l 0 else with_target g l None))
    by true rest = calm-then p (calm p g (Word l 0) tt (λ e. refl)) (rest (with_word g l 0))
    by false rest = calm-then p (calm p g (Aim l None) tt (tt, λ e. refl)) (rest (with_target g l None))

module _ (s : Site) (i : IsOf s.plain s.function s.object s.now) where
  put-word-grows : (k : Pick) (l : Location) (b : Option ℕ) (x : ℕ) (q : Option Kind) → kind_there s l ≡ q → Calm s.plain s.now (put_word s k l b x q)
  put-word-grows k l b x None d = calm-same s.plain s.now
  put-word-grows k l b x (Some j) d = calm s.plain s.now (Word l _) tt (λ e. let z : Some j ≡ None = sym d ∙ kind-ours s i l ∙ e in absurd cc)

  put-grows : (k : Pick) (o : Option Location) (b : Option ℕ) (x : ℕ) → Calm s.plain s.now (put_at s k o b x)
  put-grows k None b x = calm-same s.plain s.now
  put-grows k (Some l) b x = put-word-grows k l b x (kind_there s l) refl

  pub assigned-grows : (l : Left) (k : Pick) (e : Term) → CalmTo s.plain s.now (assigned s l k e)
  assigned-grows l k e = calm-and s.plain s.now (spot s false true l) (λ o. and_made (bit_given s k) (λ b. made_map (put_at s k o b) (worth s e))) (λ o a.
      calm-and s.plain s.now (bit_given s k) (λ b. made_map (put_at s k o b) (worth s e)) (λ b c.
      calm-map s.plain s.now (worth s e) (put_at s k o b) (λ x d. put-grows k o b x)))

  aim-grows : (l : Location) (t : Option Location) (b : Bool) → LeadsWell l.root t → (b ≡ true → points_in s.plain s.now l ≡ true) → Calm s.plain s.now (if b then with_target s.now l t else s.now)
  aim-grows l t true a h = calm s.plain s.now (Aim l t) tt (a, λ e. let z : true ≡ false = sym (h refl) ∙ e in absurd cc)
  aim-grows l t false a h = calm-same s.plain s.now

  pointed-grows : (q : Place) (r : Root) (path : List Part) (t : Option Location) → CalmTo s.plain s.now (pointed s q (record { root = r; path = path }) r t)
  pointed-grows q Top path t = by (is_local t) refl
    where
      l : Location
      l = record { root = Top; path = path }

      by : (b : Bool) → is_local t ≡ b → CalmTo s.plain s.now (if b then Stopped (refused reason.Constructor q) else Made (if is_some (pointer_at s.now l) then with_target s.now l t else s.now))
      by true e = tt
      by false e = aim-grows l t (is_some (pointer_at s.now l)) e (λ d. ap (λ b. b || false) d)
  pointed-grows q (Local j cs n) path t = let l : Location = record { root = Local j cs n; path = path } in aim-grows l t (points (local_there s l l.root)) tt (points-ours s i l)
  pointed-grows q (Answer j cs) path t = let l : Location = record { root = Answer j cs; path = path } in aim-grows l t (points (local_there s l l.root)) tt (points-ours s i l)

  point-at-grows : (q : Place) (o t : Option Location) → CalmTo s.plain s.now (point_at s q o t)
  point-at-grows q None t = calm-same s.plain s.now
  point-at-grows q (Some l) t = pointed-grows q l.root l.path t

  pub point-grows : (q : Place) (l : Left) (t : Target) → CalmTo s.plain s.now (and_made (spot s false false l) (λ o. and_made (target s t) (point_at s q o)))
  point-grows q l t = calm-and s.plain s.now (spot s false false l) (λ o. and_made (target s t) (point_at s q o)) (λ o a. calm-and s.plain s.now (target s t) (point_at s q o) (λ x b. point-at-grows q o x))

binding-grows : (p : Plain) (g : Grown) (q : Place) (n : ℕ) (m : Option ℕ) (v : Option Node) (b : Option Bound) → node_of g n ≡ v → g.bound n ≡ b → CalmTo p g (binding g q n m v b)
binding-grows p g q n m (Some (Port k output root)) (Some b) e f = tt
binding-grows p g q n None (Some (Port k output root)) None e f = tt
binding-grows p g q n (Some m) (Some (Port k output root)) None e f = by (not (is_top at) && may_bind g at k output m (node_of g m)) refl
  where
    at : Option (List Part)
    at = home g (path_of g n)

    by : (c : Bool) → (not (is_top at) && may_bind g at k output m (node_of g m)) ≡ c → CalmTo p g (if c then Made (with_bound g (record { port = n; to = m; place = q })) else Stopped (refused reason.BindKind q))
    by false d = tt
    by true d = calm p g (Bind (record { port = n; to = m; place = q })) tt (
      f,
      record {
        kind = k;
        output = output;
        root = root;
        port = e;
        inside = top (is_top at) (and-first (not (is_top at)) (may_bind g at k output m (node_of g m)) d);
        fits = and-second (not (is_top at)) (may_bind g at k output m (node_of g m)) d;
      },
    )
      where
        top : (x : Bool) → not x ≡ true → x ≡ false
        top true e = cc
        top false e = refl
binding-grows p g q n m (Some (Module c)) b e f = tt
binding-grows p g q n m (Some (Signal k)) b e f = tt
binding-grows p g q n m (Some (Variable k w)) b e f = tt
binding-grows p g q n m (Some (Pointer t)) b e f = tt
binding-grows p g q n m None b e f = tt

bind-at-grows : (p : Plain) (g : Grown) (q : Place) (n m : Option ℕ) → CalmTo p g (bind_at g q n m)
bind-at-grows p g q None m = calm-same p g
bind-at-grows p g q (Some n) m = binding-grows p g q n m (node_of g n) (bound_of g n) refl refl

pub bind-grows : (p : Plain) (s : Site) (q : Place) (port : Left) (to : Option Left) → CalmTo p s.now (bind s q port to)
bind-grows p s q port to = calm-and p s.now (spot s false true port) (λ o. and_made (bound_thing s to) (bind_at s.now q (option_and_then (thing_at s.now) o))) (λ o a.
    calm-and p s.now (bound_thing s to) (bind_at s.now q (option_and_then (thing_at s.now) o)) (λ m b. bind-at-grows p s.now q (option_and_then (thing_at s.now) o) m))

-- what names a port or signal
channel-if : (g : Grown) (o : Option ℕ) → IsChannel g (channel_if g o)
channel-if g None = tt
channel-if g (Some n) = by (is_channel (node_of g n)) refl
  where
    by : (c : Bool) → is_channel (node_of g n) ≡ c → IsChannel g (if c then Some n else None)
    by true e = e
    by false e = tt

pub channel-is : (s : Site) (l : Option Left) (o : Option ℕ) → channel s l ≡ Made o → IsChannel s.now o
channel-is s None o e = subst (IsChannel s.now) (made_same e) tt
channel-is s (Some l) o e = let c = made_map-is (λ o. channel_if s.now (option_and_then (thing_at s.now) o)) (spot s false true l) o e in
    subst (IsChannel s.now) c.2 (channel-if s.now (option_and_then (thing_at s.now) c.0))

item-is : (s : Site) (i : Sense) (x : Item) → item_of s i ≡ Made x → IsChannel s.now x.signal
item-is s i x e = let c = made_map-is (λ n. record { place = i.place; signal = n; rising = i.rising }) (channel s i.signal) x e in
    subst (λ (y : Item). IsChannel s.now y.signal) c.2 (channel-is s i.signal c.0 c.1)

pub items-are : (s : Site) (is : List Sense) (xs : List Item) → items_of s is ≡ Made xs → AllChannels s.now xs
items-are s [] xs e = subst (AllChannels s.now) (made_same e) tt
items-are s (i ∷ is) xs e = let c = and_made-is (item_of s i) (λ x. made_map (λ xs. x ∷ xs) (items_of s is)) xs e in
    let d = made_map-is (λ xs. c.0 ∷ xs) (items_of s is) xs c.2 in
    subst (AllChannels s.now) d.2 (item-is s i c.0 c.1, items-are s is d.0 d.1)

edge-items-are : (s : Site) (i : Option Sense) (xs : List Item) → edge_items s i ≡ Made xs → AllChannels s.now xs
edge-items-are s None xs e = subst (AllChannels s.now) (made_same e) tt
edge-items-are s (Some i) xs e = let c = made_map-is (λ x. x ∷ []) (item_of s i) xs e in subst (AllChannels s.now) c.2 (item-is s i c.0 c.1, tt)

pub declare-grows : (s : Site) (q : Place) (thread : Bool) (f : ℕ) (edge : Option Sense) → IsModule s.now s.object → CalmTo s.plain s.now (declare s q thread f edge)
declare-grows s q thread f edge m = by (not (may_run (slice_get s.plain.functions f)) || runs_already s.now s.object f) refl
  where
    next : List Item → Grown
    next items = with_declared s.now (s.now.declared ++ record { object = s.object; function = f; place = q; is_thread = thread; items = items; resets = [] } ∷ [])

    by : (c : Bool) → (not (may_run (slice_get s.plain.functions f)) || runs_already s.now s.object f) ≡ c → CalmTo s.plain s.now (if c then Stopped (refused reason.Constructor q) else made_map next (edge_items s edge))
    by true e = tt
    by false e = calm-map s.plain s.now (edge_items s edge) next (λ items d. calm s.plain s.now (Process (record { object = s.object; function = f; place = q; is_thread = thread; items = items; resets = [] })) tt (record {
      object = m;
      function = not_true (may_run (slice_get s.plain.functions f)) (or-first (not (may_run (slice_get s.plain.functions f))) (runs_already s.now s.object f) e);
      once = or-second (not (may_run (slice_get s.plain.functions f))) (runs_already s.now s.object f) e;
      items = edge-items-are s edge items d;
      resets = refl;
    }))

less : (n m : ℕ) → nat_le n m ≡ false → m < n
less n m e = grind arith

not_less : (n m : ℕ) → nat_lt n m ≡ false → m ≤ n
not_less n m e = grind arith

-- one more object
pub added-is : (p : Plain) (g : Grown) (path : List Part) (q : Place) (node : Node) → IsNew p g node → (h : Grown) → added g path q node ≡ Made h
    → (h ≡ with_object g path q node) × IsAllowed p g (Add path q node)
added-is p g path q node new h e = by (nat_le 65536 (length g.objects) || nat_lt 64 (length path)) refl e
  where
    inner : Tried Grown
    inner = if nat_lt 1048576 (g.bits + bits_of node) then Stopped (refused reason.StorageTooLarge q) else Made (with_object g path q node)

    within : (c : Bool) → (if c then Stopped (refused reason.StorageTooLarge q) else Made (with_object g path q node)) ≡ Made h → h ≡ with_object g path q node
    within true e = cc
    within false e = sym (made_same e)

    by : (c : Bool) → (nat_le 65536 (length g.objects) || nat_lt 64 (length path)) ≡ c → (if c then Stopped (refused reason.TooManyObjects q) else inner) ≡ Made h
        → (h ≡ with_object g path q node) × IsAllowed p g (Add path q node)
    by true d e = cc
    by false d e = (
      within (nat_lt 1048576 (g.bits + bits_of node)) e,
      (
        less 65536 (length g.objects) (or-first (nat_le 65536 (length g.objects)) (nat_lt 64 (length path)) d),
        not_less 64 (length path) (or-second (nat_le 65536 (length g.objects)) (nat_lt 64 (length path)) d),
        new,
      ),
    )

module _ (p : Plain) (g : Grown) (path : List Part) (q : Place) (node : Node) (new : IsNew p g node) where
  added-by : (Pre : Type 0) (A : Object → Type 0) → (Grows p g (with_object g path q node) → IsWhole p → IsApart g → Pre → IsApart (with_object g path q node) × Adds A g (with_object g path q node)) → KeepsTo p Pre A g (added g path q node)
  added-by Pre A f = by (added g path q node) refl
    where
      by : (t : Tried Grown) → added g path q node ≡ t → KeepsTo p Pre A g t
      by (Stopped r) e = tt
      by (Made h) e = let c = added-is p g path q node new h e in let grows : Grows p g (with_object g path q node) = grows-one (Add path q node) c.1 in subst (Keeps p Pre A g) (sym c.0) (grows, f grows)

  pub added-keeps : is_pointer node ≡ false → KeepsTo p (IsPlace g path) (Solid path) g (added g path q node)
  added-keeps solid = added-by (IsPlace g path) (Solid path) (λ grows whole apart place. let z = solid-added g path q node apart.spread grows place solid in (apart-more p g (with_object g path q node) grows refl apart z.0, z.1))

  pub pointer-keeps : is_pointer node ≡ true → KeepsTo p (IsEmpty g path) (Within path) g (added g path q node)
  pointer-keeps is_one = added-by (IsEmpty g path) (Within path) (λ grows whole apart place. let z = pointer-added g path q node apart.spread grows place is_one in (apart-more p g (with_object g path q node) grows refl apart z.0, z.1))
