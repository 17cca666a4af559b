-- What is looked for when all is walked: calls by a class's name of functions that name an object, and functions and classes that come back to themselves (ISO
-- C++ [class.static], [basic.types]; that nothing calls itself is this project's own).
use Rattle.std.specs.Prelude.{ℕ, Bool, true, false, ◌&&◌, ◌||◌, List, [], ◌∷◌, length, slice_get, Option, Some, None}
use Rattle.std.specs.List.{list_any, range_with_len}
use Rattle.scc_base.specs.declared.refusal.Place.{Place}
use Rattle.scc_base.specs.declared.refusal.Refusal.{Refusal}
use Rattle.scc_base.specs.declared.code.Code.TheVariants as reason
use Rattle.scc_core_spec.specs.First.{refused, first_of, when}
use Rattle.scc_core_spec.specs.Feeding.{reaches}
use Rattle.scc_templates_spec.specs.Walk.{Event, Fault, Need, Late, Uses, Calls, Callee, same_callee, How, OnThis, ByClass}

pub record Called : Type 0 where
  pub callee : Callee
  pub how : How
  pub place : Place

-- the calls of a walk, in order
abbrev pub calls_in : List Event → List Called
calls_in [] = []
calls_in (Calls f how place ∷ es) = record { callee = f; how = how; place = place } ∷ calls_in es
calls_in (Fault code place other ∷ es) = calls_in es
calls_in (Need needed place ∷ es) = calls_in es
calls_in (Late place ∷ es) = calls_in es
calls_in (Uses ∷ es) = calls_in es

-- whether `this`, or a member by itself, is named
abbrev pub uses_in : List Event → Bool
uses_in [] = false
uses_in (Uses ∷ es) = true
uses_in (Fault code place other ∷ es) = uses_in es
uses_in (Need needed place ∷ es) = uses_in es
uses_in (Late place ∷ es) = uses_in es
uses_in (Calls f how place ∷ es) = uses_in es

abbrev pub is_on_this : How → Bool
is_on_this OnThis = true
is_on_this how = false

abbrev pub is_by_class : How → Bool
is_by_class ByClass = true
is_by_class how = false

-- a function's body and the walk over it
pub record Body : Type 0 where
  pub callee : Callee
  pub walk : List Event

abbrev pub walk_in : Option Body → List Event
walk_in None = []
walk_in (Some b) = b.walk

abbrev pub is_it : Callee → Option Body → Bool
is_it f None = false
is_it f (Some b) = same_callee f b.callee

-- the bodies that are walked, in order: a function's number is its place
module _ (bodies : List Body) where
  abbrev pub walk_of : ℕ → List Event
  walk_of f = walk_in (slice_get bodies f)

  abbrev pub calls : ℕ → ℕ → Bool
  calls f g = list_any (λ c. is_it c.callee (slice_get bodies g)) (calls_in (walk_of f))

  abbrev pub calls_on_this : ℕ → ℕ → Bool
  calls_on_this f g = list_any (λ c. is_on_this c.how && is_it c.callee (slice_get bodies g)) (calls_in (walk_of f))

  -- the function names an object, or one does that it calls on its own object
  abbrev pub names_object : ℕ → Bool
  names_object f = uses_in (walk_of f) || list_any (λ g. reaches calls_on_this (length bodies) f g && uses_in (walk_of g)) (range_with_len 0 (length bodies))

  abbrev pub is_used : Callee → Bool
  is_used c = list_any (λ f. is_it c (slice_get bodies f) && names_object f) (range_with_len 0 (length bodies))

  -- E304: a call by a class's name of such a function
  abbrev pub by_class : List Event → Option Refusal
  by_class walk = first_of (λ c. when (is_by_class c.how && is_used c.callee) (refused reason.Mismatch c.place)) (calls_in walk)

  abbrev pub calls_itself : ℕ → Bool
  calls_itself f = reaches calls (length bodies) f f

-- E309: what is walked, in order, a class before its functions; where its name stands, and whether it comes back to itself
pub record Named : Type 0 where
  pub place : Place
  pub returns : Bool

abbrev pub recursive : List Named → Option Refusal
recursive ns = first_of (λ n. when n.returns (refused reason.Recursion n.place)) ns
