use Rattle.std.specs.Prelude.{◌≡◌}
use Rattle.std.specs.List.{HoldsAt}
use Rattle.std.specs.List.Sorted.{IsNonDecreasingBy, IsPartitionPoint}
use Rattle.std.proofs.lemmas.List.Sorted.{answers_always}
use Rattle.std.specs.Ordering.{nat_cmp, ordering_index}
use Rattle.std.specs.declared.cmp.Ordering.TheVariants.{Less, Equal, Greater}
use Rattle.std.proofs.Common.{rules, subst}
use Rattle.scc_bits_kinds.specs.declared.table.Row.{Row}
use Rattle.scc_bits_kinds.specs.Rows.{place}
use Rattle.scc_bits_kinds.proofs.Found.{found, missing}
use Rattle.scc_bits_kinds.proofs.table.find_row.Goals as goal

pub returns-in-Ok : goal.returns-in-Ok
returns-in-Ok c =
    let at = c.in-Ok.ensures.position (λ (y : Row). place y.op y.left y.right) (answers_always _ _ _ (λ f a r f' k. search rules)) in
    found c.args.rows.now c.args.op c.args.left c.args.right c.in-Ok.at _ c.requires.ascending c.in-Ok.ensures.bound (subst (λ k. HoldsAt (λ (y : Row). nat_cmp (place y.op y.left y.right) k ≡ Equal) c.args.rows.now c.in-Ok.at) c.place-place.ensures at)

pub returns-in-Err : goal.returns-in-Err
returns-in-Err c =
    let at = c.in-Err.ensures.position (λ (y : Row). place y.op y.left y.right) (answers_always _ _ _ (λ f a r f' k. search rules)) in
    let parts = subst (λ k. IsNonDecreasingBy (λ (y : Row). ordering_index (nat_cmp (place y.op y.left y.right) k)) c.args.rows.now → IsPartitionPoint (λ (y : Row). nat_cmp (place y.op y.left y.right) k ≡ Less) (λ (y : Row). nat_cmp (place y.op y.left y.right) k ≡ Greater) c.args.rows.now c.in-Err.field-0) c.place-place.ensures at in
    λ rule. (λ e. absurd (cc), λ e. absurd (missing c.args.rows.now c.args.op c.args.left c.args.right c.in-Err.field-0 c.requires.ascending parts rule e))
