-- What is found while a body is walked, as the definitions have it. This project's own.
use Rattle.std.specs.Prelude.{◌≡◌, ◌++◌, ◌∷◌, ℕ, Bool, true, false, List, [], map, Option, Some, None, Result, Ok, Err, if◌then◌else◌}
use Rattle.scc_base.specs.declared.refusal.Place.{Place}
use Rattle.scc_base.specs.declared.refusal.Stop.{Stop}
use Rattle.scc_base.specs.declared.refusal.Stop.TheVariants as stop
use Rattle.scc_base.specs.declared.code.Code.TheVariants as reason
use Rattle.scc_bits_kinds.specs.declared.kind.Kind.{Kind}
use Rattle.scc_tree.specs.declared.expr.UnaryOp.{UnaryOp}
use Rattle.scc_tree.specs.declared.expr.UnaryOp.TheVariants as before
use Rattle.scc_templates_spec.specs.Walk.{Callee, Event, Fault, Uses, Calls, How, OnThis, ByClass, OnOther}
use Rattle.scc_templates_spec.specs.Walked.{Walked, pure, fault}
use Rattle.scc_plain_spec.specs.Drafts.{Draft, cast}
use Rattle.scc_plain_spec.specs.Forms.{Subject}
use Rattle.scc_plain_spec.specs.Meant.{Meant, Stands, Built}
use Rattle.scc_plain_spec.specs.Parts.{is_call}
use Rattle.scc_plain_drafts.specs.declared.meant.Meant.{Meant as Held}
use Rattle.scc_plain_drafts.specs.declared.form.Loc.{Loc}
use Rattle.scc_plain_drafts.specs.Forms.{Classes, SoundLoc, loc_in}
use Rattle.scc_plain_drafts.specs.Meaning.{meant_in, SoundMeant}
use Rattle.scc_plain_bodies.specs.declared.function.FunctionId.{FunctionId}
use Rattle.scc_plain_bodies.specs.declared.walk.CallOn.{CallOn}
use Rattle.scc_plain_bodies.specs.declared.walk.CallOn.TheVariants as on
use Rattle.scc_plain_bodies.specs.declared.walk.Note.{Note}
use Rattle.scc_plain_bodies.specs.declared.walk.Note.TheVariants as note

-- an operator on pointers
abbrev pub is_pointing : UnaryOp → Bool
is_pointing before.Deref = true
is_pointing before.Address = true
is_pointing o = false

-- a value in the type of a cast
abbrev pub cast_in : Place → Option Kind → Draft → Walked Draft
cast_in p None x = fault reason.Mismatch p
cast_in p (Some k) x = cast p k x

-- a result is a number's
abbrev pub result_kind : Place → Option Kind → Walked (Option Kind)
result_kind p None = fault reason.Mismatch p
result_kind p (Some k) = pure (Some k)

-- the name of a call of the language
abbrev pub built : Place → ℕ → Subject → Walked Meant
built own x s = if is_call x then pure (Built x s) else fault reason.UnknownName own

abbrev pub how_of : CallOn → How
how_of on.Other = OnOther
how_of on.Own = OnThis
how_of on.Class = ByClass

-- what is noted, by what functions are called
abbrev pub event_of : (FunctionId → Callee) → Note → Event
event_of key (note.This f) = Uses
event_of key (note.Call from to how place) = Calls (key to) (how_of how) place

-- The answer is what the definition names, or its refusal, and what is noted is what it meets; or memory is wanted.
abbrev pub Noted : Classes → (FunctionId → Callee) → List Note → List Note → Result Held Stop → Walked Meant → Type 0
Noted n key old new (Ok m) w = (w.value ≡ Some (meant_in n m)) × SoundMeant m × (map (event_of key) new ≡ map (event_of key) old ++ w.walk)
Noted n key old new (Err (stop.Refused r)) w = (w.value ≡ None) × (map (event_of key) new ++ Fault r.code r.place r.other ∷ [] ≡ map (event_of key) old ++ w.walk)
Noted n key old new (Err stop.NoMemory) w = Unit {0}

-- a location is what the definition names
abbrev pub IsLocal : Classes → Loc → Walked Meant → Type 0
IsLocal n l w = (w ≡ pure (Stands (loc_in n l))) × SoundLoc l
