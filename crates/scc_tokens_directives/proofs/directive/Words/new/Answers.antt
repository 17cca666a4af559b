use Rattle.std.proofs.Common.{ap, ◌∙◌, codes}
use Rattle.scc_base.specs.Names.{with_name}
use Rattle.scc_tokens_lexer.proofs.Scanning.{keeps_more}
use Rattle.scc_tokens_lexer.proofs.Spelling.{get_keeps}
use Rattle.scc_tokens_directives.proofs.directive.Words.new.Goals as goal

pub returns-clause-words : goal.returns-clause-words
returns-clause-words c =
    let k5 = c.in_ok-synthesis.ensures.keeps in
    let k45 = keeps_more _ _ _ c.in_ok-h.ensures.keeps k5 in
    let k345 = keeps_more _ _ _ c.in_ok-pragma.ensures.keeps k45 in
    let k2345 = keeps_more _ _ _ c.in_ok-ifdef.ensures.keeps k345 in
    let one = c.in_ok-include.ensures.texts in
    let two = c.in_ok-ifdef.ensures.texts in
    let three = c.in_ok-pragma.ensures.texts in
    record {
      include = get_keeps _ _ _ _ k2345 one.first;
      define = get_keeps _ _ _ _ k2345 one.second;
      undef = get_keeps _ _ _ _ k2345 one.third;
      ifdef = get_keeps _ _ _ _ k345 two.first;
      ifndef = get_keeps _ _ _ _ k345 two.second;
      endif = get_keeps _ _ _ _ k345 two.third;
      pragma = get_keeps _ _ _ _ k45 three.first;
      once = get_keeps _ _ _ _ k45 three.second;
      systemc = get_keeps _ _ _ _ k45 three.third;
      h = get_keeps _ _ _ _ k5 c.in_ok-h.ensures.text;
      synthesis = c.in_ok-synthesis.ensures.text;
    }

pub returns-clause-names : goal.returns-clause-names
returns-clause-names c =
    c.in_ok-synthesis.ensures.names
    ∙ ap (λ ns. with_name ns (codes "SCC_SYNTHESIS"))
    (c.in_ok-h.ensures.names
    ∙ ap (λ ns. with_name ns (codes "h"))
    (c.in_ok-pragma.ensures.names
    ∙ ap (λ ns. with_name (with_name (with_name ns (codes "pragma")) (codes "once")) (codes "systemc"))
    (c.in_ok-ifdef.ensures.names
    ∙ ap (λ ns. with_name (with_name (with_name ns (codes "ifdef")) (codes "ifndef")) (codes "endif")) c.in_ok-include.ensures.names)))
