-- What every plain program has, in its declarations and in the bodies of its functions. This project's own.
use Rattle.std.specs.Prelude.{Bool, ◌&&◌, nat_lt, [], length, is_some}
use Rattle.std.specs.List.{list_all}
use Rattle.scc_plain_tree.specs.declared.program.PlainFunction.{PlainFunction}
use Rattle.scc_plain_tree.specs.declared.program.Plain.{Plain}
use Rattle.scc_plain_look.specs.Heads.{is_whole_class, is_whole_head}
use Rattle.scc_plain_look.specs.Steps.{in_turn, seen_each}

-- the initialisers, and the body behind them
abbrev pub is_whole_body : Plain → PlainFunction → Bool
is_whole_body p f = is_some (in_turn (seen_each p f f.inits) (seen_each p f f.body) 0 [])

abbrev pub whole_plain : Plain → Bool
whole_plain p = nat_lt p.top (length p.classes)
    && (list_all (is_whole_class (length p.classes) (length p.functions)) p.classes
    && (list_all (is_whole_head (length p.classes)) p.functions && list_all (is_whole_body p) p.functions))
