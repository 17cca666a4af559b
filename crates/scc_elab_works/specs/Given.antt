-- Arguments in the constructor in which they stand. This project's own.
use Rattle.std.specs.Prelude.{ℕ, List, [], ◌∷◌, ◌++◌, map}
use Rattle.std.specs.List.{range_with_len}
use Rattle.scc_plain_view.specs.Codes.{base_of}
use Rattle.scc_elab_store.specs.Locations.{part_of}
use Rattle.scc_elab_spec.specs.Construct.{Now, Ran}
use Rattle.scc_elab_works.specs.declared.works.VectorOf.{VectorOf}
use Rattle.scc_core_spec.specs.Resolved.{Tried, Made, and_made}
use Rattle.scc_elab_spec.specs.Program.{Plain}
use Rattle.scc_elab_spec.specs.Grown.{Grown, added, at_path, with_word}
use Rattle.scc_base.specs.declared.refusal.Place.{Place}
use Rattle.scc_bits_kinds.specs.declared.kind.Kind.{Kind}
use Rattle.scc_semantics.specs.Location.{Part, Element}
use Rattle.scc_elab_spec.specs.Design as design
use Rattle.scc_elab_spec.specs.Made.{word_if, built, made_one, none_given, over_elements}
use Rattle.scc_elab_spec.specs.Worth.{Given, at_now, given}
use Rattle.scc_plain_view.specs.Terms.{argument_of}
use Rattle.scc_elab_works.specs.declared.works.Args.{Args}
use Rattle.scc_elab_works.specs.Works.{anew, passed_at, passed_in}

abbrev pub args_at : Plain → Args → Grown → Tried (List Given)
args_at p args = passed_at p (passed_in args)

-- a variable takes the last argument, if any
abbrev pub variable_made : Grown → List Part → Place → Kind → (Grown → Tried (List Given)) → Tried Grown
variable_made g path p k args = and_made (added g path p (design.Variable k 0)) (λ g. and_made (args g) (λ gs. Made (word_if gs (at_path path) (with_word g (at_path path) 0))))

-- an element of a vector, without arguments
abbrev pub element_made : Plain → VectorOf → Grown → ℕ → Tried Grown
element_made p v g i = made_one (built p v.levels) g (map part_of v.path.items ++ Element i ∷ []) v.place (base_of v.base) none_given

-- what the rest of a vector makes of what is made
abbrev pub vector_left : Plain → VectorOf → Now → Ran
vector_left p v n = anew (over_elements (element_made p v) (range_with_len v.next v.count) n.grown)
