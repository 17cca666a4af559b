use Rattle.std.proofs.Common.{◌∙◌, sym, ap, subst, option_map}
use Rattle.std.proofs.lemmas.Option.{slice_get-map}
use Rattle.scc_plain_view.specs.Plains.{plain_of, function_of}
use Rattle.scc_inline_facts.specs.Known.{Tells}
use Rattle.scc_inline_facts.proofs.Knowing.{set_ok}
use Rattle.scc_inline_facts.proofs.facts.look_at.Goals as goal

pub returns : goal.returns
returns c = set_ok c.set.result c.args.plain.now c.args.known.now.items c.set.new.known.items c.args.number c.in_ok-own.own (function_of c.in-Some.function.now)
    (slice_get-map function_of c.args.plain.now.functions c.args.number ∙ ap (option_map function_of) (sym c.in-Some.ensures.element)) (subst (λ k. Tells k (plain_of c.args.plain.now) (function_of c.in-Some.function.now) c.in_ok-own.own) c.as_slice.ensures.value c.in_ok-own.ensures) c.set.ensures
