-- The design of a thin text is sound.
use Rattle.std.proofs.Common.{◌≡◌, ℕ, zero, suc, ◌+◌, ◌<◌, List, [], ◌∷◌, ◌++◌, map, length, Bool, true, false, not, nat_eq, ◌&&◌, ◌||◌, Option, Some, None, ap, refl, sym, ◌∙◌, subst, arith}
use Rattle.std.specs.Prelude.{position, nat_le, bytes_eq}
use Rattle.std.specs.List.{list_any, list_all}
use Rattle.std.proofs.lemmas.List.Quantifiers.{position-Some}
use Rattle.std.proofs.lemmas.Slice.Eq.{bytes_eq-Decides}
use Rattle.scc_svtree.specs.Sound.{Each}
use Rattle.scc_thin.specs.declared.design.Design.{Design}
use Rattle.scc_thin.specs.declared.design.Port.{Port}
use Rattle.scc_thin.specs.declared.design.Put.{Put}
use Rattle.scc_thin.specs.declared.design.Second.{Second}
use Rattle.scc_tokens_lexer.specs.declared.token.Token as joined
use Rattle.scc_thin.specs.declared.thin.token.Token.{Token}
use Rattle.scc_thin.specs.declared.thin.token.Token.TheVariants.{Word, Mark, Name, Number}
use Rattle.scc_thin.specs.declared.thin.tree.Group.{Group}
use Rattle.scc_thin.specs.declared.thin.tree.Read.{Read}
use Rattle.scc_thin.specs.declared.thin.tree.Tree.{Tree}
use Rattle.scc_thin.specs.declared.thin.tree.Write.{Write}
use Rattle.scc_thin.specs.Gives.{◌>>=◌, each, before}
use Rattle.scc_thin.specs.Resolved.{names_of, input_named, output_named, is_output_at, second_of, put_of, targets_of, are_written, are_new_names, are_new_numbers, is_sensed, is_complete, named_of, agrees, design_of, ports_of, port_of}
use Rattle.scc_thin.specs.Thin.{thin_of}
use Rattle.scc_thin.specs.Tokens.{tokens_of}
use Rattle.scc_thin.specs.Reading.{tree_at}
use Rattle.scc_thin_module.proofs.Chains.{bind_ok, guard_ok, unless_ok, and_first, and_second}
use Rattle.scc_thin_module.proofs.Heads.{IsNarrow, IsFine, AllNamed, tree_kept}
use Rattle.scc_thin_module.proofs.Emitting.{FewBits}
use Rattle.scc_thin.proofs.Mapped.{length_map}
use Rattle.scc_thin_module.proofs.Putting.{Within, SecondWithin, AllWithin}
use Rattle.scc_thin_module.proofs.Lasting.{SecondIsInput, IsSoundPut, AllSoundPuts}
use Rattle.scc_thin_module.proofs.Rounds.{IsSound}

-- where a name stands, a port stands
named_within : (ports : List Port) (name : List ℕ) (i : ℕ) → position (bytes_eq name) (names_of ports) ≡ Some i → i < length ports
named_within ports name i e = subst (λ n. i < n) (length_map (λ p. p.name) ports) (position-Some (bytes_eq name) (names_of ports) i [] e).0

output_found : (ports : List Port) (name : List ℕ) (i : ℕ) → output_named ports name ≡ Some i → (is_output_at ports i ≡ true) × (i < length ports)
unfolding output_named
output_found ports name i e =
    let f = bind_ok (position (bytes_eq name) (names_of ports)) _ i e in
    let g = guard_ok (is_output_at ports f.0) (Some f.0) i f.2 in
    let h : f.0 ≡ i = cc g.1 in
    (ap (is_output_at ports) (sym h) ∙ g.0, subst (λ n. n < length ports) h (named_within ports name f.0 f.1))

input_found : (ports : List Port) (name : List ℕ) (i : ℕ) → input_named ports name ≡ Some i → (is_output_at ports i ≡ false) × (i < length ports)
unfolding input_named
input_found ports name i e =
    let f = bind_ok (position (bytes_eq name) (names_of ports)) _ i e in
    let g = unless_ok (is_output_at ports f.0) (Some f.0) i f.2 in
    let h : f.0 ≡ i = cc g.1 in
    (ap (is_output_at ports) (sym h) ∙ g.0, subst (λ n. n < length ports) h (named_within ports name f.0 f.1))

second_found : (ports : List Port) (r : Option Read) (s : Option Second) → second_of ports r ≡ Some s → SecondIsInput ports s × SecondWithin (length ports) s
second_found ports None None e = (tt, tt)
second_found ports None (Some s) e = cc
second_found ports (Some r) None e = let f = bind_ok (input_named ports r.port) _ _ e in cc f.2
second_found ports (Some r) (Some s) e =
    let f = bind_ok (input_named ports r.port) _ _ e in
    let g : f.0 ≡ s.port = cc f.2 in
    let h = input_found ports r.port f.0 f.1 in
    (ap (is_output_at ports) (sym g) ∙ h.0, subst (λ n. n < length ports) g h.1)

abbrev Good : List Port → Put → Type 0
Good ports p = Within (length ports) p × IsSoundPut ports p

put_found : (ports : List Port) (w : Write) (p : Put) → put_of ports w ≡ Some p → Good ports p
unfolding put_of
put_found ports w p e =
    let t = bind_ok (output_named ports w.target) _ _ e in
    let f = bind_ok (input_named ports w.first) _ _ t.2 in
    let s = bind_ok (second_of ports w.second) _ _ f.2 in
    let a : t.0 ≡ p.target = cc s.2 in
    let b : f.0 ≡ p.first = cc s.2 in
    let c : s.0 ≡ p.second = cc s.2 in
    let target = output_found ports w.target t.0 t.1 in
    let first = input_found ports w.first f.0 f.1 in
    let second = subst (λ o. SecondIsInput ports o × SecondWithin (length ports) o) c (second_found ports w.second s.0 s.1) in (
      (subst (λ n. n < length ports) a target.1, subst (λ n. n < length ports) b first.1, second.1),
      (ap (is_output_at ports) (sym a) ∙ target.0, ap (is_output_at ports) (sym b) ∙ first.0, second.0),
    )

puts_found : (ports : List Port) (ws : List Write) (puts : List Put) → each (put_of ports) ws ≡ Some puts → AllWithin (length ports) puts × AllSoundPuts ports puts
unfolding each
puts_found ports [] [] e = (tt, tt)
puts_found ports [] (p ∷ puts) e = cc
puts_found ports (w ∷ ws) puts e =
    let p = bind_ok (put_of ports w) _ _ e in
    rest_found (each (put_of ports) ws) p.0 puts (put_found ports w p.0 p.1) p.2 (λ qs f. puts_found ports ws qs f)
  where
    rest_found : (o : Option (List Put)) (p : Put) (puts : List Put) → Good ports p → before p o ≡ Some puts
        → ((qs : List Put) → o ≡ Some qs → AllWithin (length ports) qs × AllSoundPuts ports qs) → AllWithin (length ports) puts × AllSoundPuts ports puts
    rest_found None p puts h f g = cc
    rest_found (Some qs) p [] h f g = cc
    rest_found (Some qs) p (r ∷ rs) h f g =
        let a : p ≡ r = cc in
        let b : qs ≡ rs = cc in
        let good = subst (Good ports) a h in
        let more = subst (λ l. AllWithin (length ports) l × AllSoundPuts ports l) b (g qs refl) in
        ((good.0, more.0), (good.1, more.1))

written_found : (targets : List ℕ) (k : ℕ) (ps : List Port) → are_written targets k ps ≡ true → (i : ℕ) → is_output_at ps i ≡ true → list_any (nat_eq (k + i)) targets ≡ true
written_found targets k [] e i q = cc
written_found targets k (p ∷ ps) e zero q = ap (λ n. list_any (nat_eq n) targets) (let h : k + 0 ≡ k = omega arith in h) ∙ at_output p.output q (and_first _ _ e)
  where
    at_output : (v : Bool) → v ≡ true → (not v || list_any (nat_eq k) targets) ≡ true → list_any (nat_eq k) targets ≡ true
    at_output true a b = b
    at_output false a b = cc
written_found targets k (p ∷ ps) e (suc i) q =
    ap (λ n. list_any (nat_eq n) targets) (let h : k + suc i ≡ k + 1 + i = omega arith in h) ∙ written_found targets (k + 1) ps (and_second _ _ e) i q

complete_written : (ports : List Port) (senses : List ℕ) (puts : List Put) → is_complete ports senses puts ≡ true → are_written (targets_of puts) 0 ports ≡ true
unfolding is_complete
complete_written ports senses puts e =
    and_second (are_new_numbers [] senses && list_all (is_sensed senses) puts && are_new_numbers [] (targets_of puts)) (are_written (targets_of puts) 0 ports) e

-- what a design's parts are
pub design_parts : (top : List ℕ) (t : Tree) (d : Design) → design_of top t ≡ Some d → IsSound d × (d.ports ≡ ports_of t.head.groups) × (d.top ≡ t.head.top)
unfolding design_of
design_parts top t d e =
    let ports : List Port = ports_of t.head.groups in
    let g = guard_ok (nat_le (length ports) 1000 && agrees top t) _ d e in
    let n = bind_ok (named_of top t.body.function ports) _ d g.1 in
    let s = bind_ok (each (input_named ports) t.constructor.senses) _ d n.2 in
    let p = bind_ok (each (put_of ports) t.body.writes) _ d s.2 in
    let c = guard_ok (is_complete ports s.0 p.0) _ d p.2 in
    let made : record { top = top; ports = ports; senses = s.0; puts = p.0 } ≡ d = cc c.1 in
    let named = and_second (nat_le (length ports) 1000) (agrees top t) g.0 in
    let head = and_first (bytes_eq t.head.top top) (bytes_eq t.constructor.class top) (and_first (bytes_eq t.head.top top && bytes_eq t.constructor.class top) (bytes_eq t.constructor.method t.body.function) named) in
    let found = puts_found ports t.body.writes p.0 p.1 in (
      subst IsSound made (record {
        within = found.0;
        puts = found.1;
        written = λ i q. ap (λ n. list_any (nat_eq n) (targets_of p.0)) (let h : i ≡ 0 + i = omega arith in h)
            ∙ written_found (targets_of p.0) 0 ports (complete_written ports s.0 p.0 c.0) i q;
      }),
      sym (ap (λ r. r.ports) made),
      sym (ap (λ r. r.top) made) ∙ sym ((bytes_eq-Decides t.head.top top).0 head),
    )

-- no two ports have one name
pub new_names : (top : List ℕ) (t : Tree) (d : Design) → design_of top t ≡ Some d → are_new_names [] (names_of d.ports) ≡ true
unfolding design_of named_of
new_names top t d e =
    let ports : List Port = ports_of t.head.groups in
    let g = guard_ok (nat_le (length ports) 1000 && agrees top t) _ d e in
    let n = bind_ok (named_of top t.body.function ports) _ d g.1 in
    let differ = guard_ok (are_new_names [] (names_of ports)) _ n.0 n.1 in
    subst (λ l. are_new_names [] (names_of l) ≡ true) (sym (design_parts top t d e).1) differ.0

-- the facts of the groups are those of their ports
group_each : (P : Port → Type 0) (output : Bool) (width : ℕ) (names : List (List ℕ)) (more : List Port) → Each (λ n. P (port_of output width n)) names → Each P more
    → Each P (map (port_of output width) names ++ more)
group_each P output width [] more h g = g
group_each P output width (n ∷ names) more h g = (h.0, group_each P output width names more h.1 g)

module _ (Q : List ℕ → Type 0) where
  -- a port of a thin text
  abbrev pub IsPort : Port → Type 0
  IsPort p = IsNarrow p.width × Q p.name

  named_ports : (output : Bool) (width : ℕ) (names : List (List ℕ)) → IsNarrow width → Each Q names → Each (λ n. IsPort (port_of output width n)) names
  named_ports output width [] w h = tt
  named_ports output width (n ∷ names) w h = ((w, h.0), named_ports output width names w h.1)

  ports_each : (groups : List Group) → Each (IsFine Q) groups → Each IsPort (ports_of groups)
  ports_each [] h = tt
  ports_each (g ∷ gs) h = group_each IsPort g.output g.width g.names (ports_of gs) (named_ports g.output g.width g.names h.0.0 h.0.1) (ports_each gs h.1)

  few_bits : (ps : List Port) → Each IsPort ps → FewBits ps
  few_bits [] h i = omega arith
  few_bits (p ∷ ps) h zero = h.0.0.1
  few_bits (p ∷ ps) h (suc i) = few_bits ps h.1 i

  -- what is known of the tokens' names is known of the ports' and the top's
  pub tree_good : (top : List ℕ) (ts : List Token) (t : Tree) (d : Design) → tree_at ts ≡ Some t → design_of top t ≡ Some d → AllNamed Q ts → IsSound d × Q d.top × Each IsPort d.ports × FewBits d.ports
  tree_good top ts t d r e h =
      let p = design_parts top t d e in
      let k = tree_kept Q ts t r h in
      let ports : Each IsPort d.ports = subst (Each IsPort) (sym p.1) (ports_each t.head.groups k.1) in
      (p.0, subst Q (sym p.2) k.0, ports, few_bits d.ports ports)

any_named : (ts : List Token) → AllNamed (λ n. Unit {0}) ts
any_named [] = tt
any_named (Word t ∷ ts) = (tt, any_named ts)
any_named (Mark t ∷ ts) = (tt, any_named ts)
any_named (Name t ∷ ts) = (tt, any_named ts)
any_named (Number k w len ∷ ts) = (tt, any_named ts)

pub thin_sound : (names : List (List ℕ)) (top : List ℕ) (tokens : List joined.Token) (d : Design) → thin_of names top tokens ≡ Some d → IsSound d × FewBits d.ports
unfolding thin_of
thin_sound names top tokens d e =
    let t = bind_ok (tokens_of names tokens >>= tree_at) (design_of top) d e in
    let r = bind_ok (tokens_of names tokens) tree_at t.0 t.1 in
    let g = tree_good (λ n. Unit {0}) top r.0 t.0 d r.2 t.2 (any_named r.0) in
    (g.0, g.3)
