-- What expressions name, and calls, as the definitions have them. This project's own.
use Rattle.std.specs.Prelude.{◌≡◌, Option, Some, None, option_map, Result, Ok, Err}
use Rattle.scc_base.specs.declared.refusal.Stop.{Stop}
use Rattle.scc_base.specs.declared.refusal.Stop.TheVariants as stop
use Rattle.scc_templates_spec.specs.Walked.{Walked, pure}
use Rattle.scc_templates_spec.specs.World.{Owner, File, In}
use Rattle.scc_templates_scopes.specs.declared.ty.InstanceId.{InstanceId}
use Rattle.scc_templates_scopes.specs.Walks.{refuses}
use Rattle.scc_plain_view.specs.Terms.{left_of}
use Rattle.scc_plain_spec.specs.Forms.{Loc as Stood}
use Rattle.scc_plain_drafts.specs.declared.form.Loc.{Loc}
use Rattle.scc_plain_spec.specs.Meant.{Meant, Valued, Stands, Function, Built, Done, Void, Nothing, Own, At, Words}
use Rattle.scc_plain_spec.specs.Methods.{Brackets, CallsFunction, StandsAlone, TakesRange, CallsMethod, Wrong}
use Rattle.scc_plain_drafts.specs.declared.meant.Meant.{Meant as Held}
use Rattle.scc_plain_drafts.specs.declared.meant.Meant.TheVariants as held
use Rattle.scc_plain_drafts.specs.declared.call.Call.{Call}
use Rattle.scc_plain_drafts.specs.declared.call.Call.TheVariants as call
use Rattle.scc_plain_drafts.specs.Views.{Sound, draft_of}
use Rattle.scc_plain_drafts.specs.Forms.{Classes, SoundLoc, SoundSubject, loc_in, subject_in, call_number, method_number}

abbrev pub owner_in : Classes → Option InstanceId → Owner
owner_in n None = File
owner_in n (Some i) = In (n i.0).class (n i.0).args

abbrev pub meant_in : Classes → Held → Meant
meant_in n (held.Value x) = Valued (draft_of x)
meant_in n (held.Loc l) = Stands (loc_in n l)
meant_in n (held.Function scope name object place) = Function (owner_in n scope) name.0 (option_map left_of object) place
meant_in n (held.Built method of) = Built (method_number method) (subject_in n of)
meant_in n (held.Done call of) = Done (call_number call) (subject_in n of)
meant_in n held.Void = Void
meant_in n held.Null = Nothing
meant_in n held.This = Own
meant_in n (held.Address l) = At (loc_in n l)
meant_in n held.Text = Words

abbrev pub SoundMeant : Held → Type 0
SoundMeant (held.Value x) = Sound x
SoundMeant (held.Loc l) = SoundLoc l
SoundMeant (held.Function scope name object place) = Unit {0}
SoundMeant (held.Built method of) = SoundSubject of
SoundMeant (held.Done call of) = SoundSubject of
SoundMeant held.Void = Unit {0}
SoundMeant held.Null = Unit {0}
SoundMeant held.This = Unit {0}
SoundMeant (held.Address l) = SoundLoc l
SoundMeant held.Text = Unit {0}

abbrev pub call_in : Classes → Call → Brackets
call_in n (call.Function scope name object place) = CallsFunction (owner_in n scope) name.0 (option_map left_of object) place
call_in n (call.Done c of) = StandsAlone (call_number c) (subject_in n of)
call_in n (call.Range of) = TakesRange (subject_in n of)
call_in n (call.Method method of) = CallsMethod (method_number method) (subject_in n of)
call_in n call.Wrong = Wrong

-- the answer is the location of the definition, or its refusal; or memory is wanted
abbrev pub Locates : Classes → Result Loc Stop → Walked Stood → Type 0
Locates n (Ok l) w = (w ≡ pure (loc_in n l)) × SoundLoc l
Locates n (Err (stop.Refused r)) w = w ≡ refuses r
Locates n (Err stop.NoMemory) w = Unit {0}
