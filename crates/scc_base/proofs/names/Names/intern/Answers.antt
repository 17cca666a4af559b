use Rattle.std.proofs.Common.{ap, sym, ◌∙◌, map, option_map, Some, string_bytes}
use Rattle.std.proofs.lemmas.Option.{slice_get-map}
use Rattle.std.proofs.lemmas.Slice.Eq.{bytes_eq-Decides}
use Rattle.scc_base.specs.Names.{with_name}
use Rattle.scc_base.proofs.NameLemmas.{texts_with, texts_differ, found_text, found_stays}
use Rattle.scc_base.proofs.names.Names.intern.Goals as goal

pub returns-clause-number : goal.returns-clause-number
returns-clause-number c =
    let s = c.in_ok-index.ensures.stored in
    slice_get-map string_bytes c.insert_full.new.self.keys c.in_ok-index.index
    ∙ ap (option_map string_bytes) s.1
    ∙ ap Some (sym ((bytes_eq-Decides _ _).0 s.2) ∙ c.in_ok-copy.ensures.ok)

pub returns-clause-kept : goal.returns-clause-kept
returns-clause-kept c =
    ap (map string_bytes) c.in_ok-index.ensures.keys
    ∙ texts_with c.self.inside.texts.keys c.in_ok-copy.copy c.args.text.now c.in_ok-copy.ensures.ok
    ∙ ap (λ l. with_name l c.args.text.now) c.self.view_is

pub returns-clause-differ : goal.returns-clause-differ
returns-clause-differ c = texts_differ c.insert_full.new.self.keys c.in_ok-index.ensures.unique

pub invariant_of-self-2 : goal.invariant_of-self-2
invariant_of-self-2 c = texts_differ c.insert_full.new.self.keys c.in_ok-index.ensures.unique

pub returns-in-Some-clause-number : goal.returns-in-Some-clause-number
returns-in-Some-clause-number c = found_text c.args.self.now c.args.text.now c.in-Some.index (sym c.in-Some.ensures.number)

pub returns-in-Some-clause-kept : goal.returns-in-Some-clause-kept
returns-in-Some-clause-kept c = found_stays c.args.self.now c.args.text.now c.in-Some.index (sym c.in-Some.ensures.number)
