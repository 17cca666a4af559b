-- The files of a command are words.
use Rattle.std.proofs.Common.{◌≡◌, ◌≤◌, ◌<◌, ◌+◌, ◌-◌, ℕ, Bool, true, false, List, [], ◌∷◌, length, map, Option, Some, None, String, ap, refl, sym, subst, arith, true≢false}
use Rattle.std.specs.Prelude.{string_bytes, is_some, unwrap_or, if◌then◌else◌, ◌&&◌, ◌||◌, not, nat_le, nat_eq, bytes_eq, codes, drop}
use Rattle.std.specs.List.{prefix_len}
use Rattle.std.proofs.lemmas.Bool.{leb-true}
use Rattle.std.proofs.lemmas.List.{length-map}
use Rattle.std.proofs.lemmas.List.Sums.{prefix_len-le-length}
use Rattle.std.specs.declared.alloc.Global.{Global}
use Rattle.scc_drive_words.specs.declared.command.Command.{Command}
use Rattle.scc_drive_words.specs.declared.command.Command.TheVariants as command
use Rattle.scc_drive_words.specs.declared.options.Options.{Options}
use Rattle.scc_drive_words.specs.Classes.{is_top, is_plain, count_of}
use Rattle.scc_drive_words.specs.Commands.{command_of, finished, command_by, compile_by, sim_by, svsim_by, list_by, gen_by, form_of, way_of, sv_form_of, has_flag, has_option, names_module, is_nothing}
use Rattle.scc_drive_words.specs.Options.{no_options, options_of, ◌>>=◌}
use Rattle.scc_drive_words.specs.Within.{Within}

-- every command of an option has its files among so many words
record AllWithin (len : ℕ) (x : Option Command) : Type 0 where
  all : (c : Command) → Some c ≡ x → Within c len

same : (a b : Command) → Some a ≡ Some b → a ≡ b
same a b e = ap (λ (x : Option Command). unwrap_or x a) e

in_none : (len : ℕ) → AllWithin len None
in_none len = record { all = λ c e. absurd (true≢false (ap is_some e)) }

in_some : (len : ℕ) (d : Command) → Within d len → AllWithin len (Some d)
in_some len d h = record { all = λ c e. subst (λ x. Within x len) (sym (same c d e)) h }

in_bind : {A : Type 0} (len : ℕ) (x : Option A) (f : A → Option Command) → ((a : A) → AllWithin len (f a)) → AllWithin len (x >>= f)
in_bind len None f h = in_none len
in_bind len (Some a) f h = h a

in_if : (len : ℕ) (b : Bool) (x y : Option Command) → (b ≡ true → AllWithin len x) → AllWithin len y → AllWithin len (if b then x else y)
in_if len true x y p q = p refl
in_if len false x y p q = q

both : (a b : Bool) → (a && b) ≡ true → (a ≡ true) × (b ≡ true)
both true b e = (refl, e)
both false b e = absurd (true≢false (sym e))

-- so many words name a module and files
counted : (top : List ℕ) (n len : ℕ) → names_module top n ≡ true → n ≤ len → (0 < n - 2) × (n - 2 ≤ 64) × (n - 2 + 2 ≤ len)
counted top n len e h =
    let p = both (is_top top && nat_le 3 n) (nat_le n 66) e in
    let q = both (is_top top) (nat_le 3 n) p.0 in
    let a : 3 ≤ n = leb-true 3 n q.1 in
    let b : n ≤ 66 = leb-true n 66 p.1 in
    (omega (arith, a), omega (arith, a, b), omega (arith, a, h))

module _ (top : List ℕ) (n len : ℕ) (h : n ≤ len) (o : Options) where
  of_compile : AllWithin len (compile_by top n o)
  of_compile =
      in_if len (names_module top n) (form_of o >>= λ f. Some (command.Compile (n - 2) f)) None
      (λ e. in_bind len (form_of o) (λ f. Some (command.Compile (n - 2) f)) (λ f. in_some len (command.Compile (n - 2) f) (counted top n len e h)))
      (in_none len)

  of_sim : AllWithin len (sim_by top n o)
  of_sim =
      in_if len (names_module top n) (o.stim >>= λ s. way_of o >>= λ w. Some (command.Sim (n - 2) s w)) None
      (λ e. in_bind len o.stim (λ s. way_of o >>= λ w. Some (command.Sim (n - 2) s w))
      (λ s. in_bind len (way_of o) (λ w. Some (command.Sim (n - 2) s w)) (λ w. in_some len (command.Sim (n - 2) s w) (counted top n len e h))))
      (in_none len)

  of_svsim : AllWithin len (svsim_by top n o)
  of_svsim =
      in_if len (is_top top && nat_eq n 3) (o.stim >>= λ s. sv_form_of o >>= λ f. Some (command.Svsim s f)) None
      (λ e. in_bind len o.stim (λ s. sv_form_of o >>= λ f. Some (command.Svsim s f))
      (λ s. in_bind len (sv_form_of o) (λ f. Some (command.Svsim s f)) (λ f. in_some len (command.Svsim s f) tt)))
      (in_none len)

  of_list : AllWithin len (list_by top n o)
  of_list =
      in_if len (names_module top n && not (has_option o || has_flag o || o.source)) (Some (command.List (n - 2))) None
      (λ e. in_some len (command.List (n - 2)) (counted top n len (both (names_module top n) (not (has_option o || has_flag o || o.source)) e).0 h))
      (in_none len)

  of_gen : AllWithin len (gen_by top n o)
  of_gen =
      in_if len (nat_eq n 2 && not (has_option o || has_flag o)) (count_of top >>= λ k. Some (command.Gen k o.source)) None
      (λ e. in_bind len (count_of top) (λ k. Some (command.Gen k o.source)) (λ k. in_some len (command.Gen k o.source) tt))
      (in_none len)

  of_command : (action : List ℕ) → AllWithin len (command_by action top n o)
  of_command action =
      in_if len (bytes_eq action (codes "compile")) _ _ (λ e. of_compile)
      (in_if len (bytes_eq action (codes "sim")) _ _ (λ e. of_sim)
      (in_if len (bytes_eq action (codes "svsim")) _ _ (λ e. of_svsim)
      (in_if len (bytes_eq action (codes "list")) _ _ (λ e. of_list)
      (in_if len (bytes_eq action (codes "gen")) _ _ (λ e. of_gen) (in_none len)))))

  of_finished : (action : List ℕ) → AllWithin len (finished action top n o)
  of_finished action = in_if len (is_nothing o.awaiting) (command_by action top n o) None (λ e. of_command action) (in_none len)

of_words : (ws : List (List ℕ)) → AllWithin (length ws) (command_of ws)
unfolding command_of
of_words [] = in_none 0
of_words (a ∷ []) = in_none 1
of_words (action ∷ top ∷ ws) =
    let few : prefix_len is_plain ws ≤ length ws = prefix_len-le-length is_plain ws in
    let len : ℕ = length (action ∷ top ∷ ws) in
    in_if len (is_plain action && is_plain top)
    (options_of (length (action ∷ top ∷ ws)) no_options (drop (prefix_len is_plain ws) ws) >>= λ o. finished action top (2 + prefix_len is_plain ws) o) None
    (λ e. in_bind len (options_of (length (action ∷ top ∷ ws)) no_options (drop (prefix_len is_plain ws) ws)) (λ o. finished action top (2 + prefix_len is_plain ws) o)
    (λ o. of_finished top (2 + prefix_len is_plain ws) len (omega (arith, few)) o action))
    (in_none len)

pub within_words : (words : List (String Global)) (c : Command) → Some c ≡ command_of (map string_bytes words) → Within c (length words)
within_words words c e = subst (Within c) (length-map words string_bytes) ((of_words (map string_bytes words)).all c e)
