-- What an emitted text and a stimulus come to.
use Rattle.std.proofs.Common.{◌≡◌, ◌≢◌, ◌≤◌, ℕ, Bool, true, false, List, [], ◌∷◌, length, Option, Some, None, Result, Ok, Err, ap, refl, sym, ◌∙◌, subst, inl, inr, arith, true≢false}
use Rattle.std.proofs.lemmas.List.{take_all}
use Rattle.std.proofs.lemmas.Bool.{le-ltb}
use Rattle.std.proofs.lemmas.Slice.Eq.{bytes_eq-Decides}
use Rattle.std.specs.Prelude.{take, option_map, bytes_eq, nat_lt, if◌then◌else◌, unwrap_or, is_some}
use Rattle.scc_base.specs.Outside.{Shelf, Told}
use Rattle.scc_base.specs.declared.code.Code.{Code}
use Rattle.scc_base.specs.declared.code.Code.TheVariants.{FileTooLong, SvName}
use Rattle.scc_base.specs.declared.refusal.Refusal.{Refusal}
use Rattle.scc_base.specs.declared.refusal.Stop.{Stop}
use Rattle.scc_base.specs.declared.refusal.Stop.TheVariants as stop
use Rattle.scc_svtree.specs.declared.module.SvModule.{SvModule}
use Rattle.scc_svread.specs.Read.{ReadAs, ReadBack, RefusedAs}
use Rattle.scc_svrun_trace.specs.Ports.{in_ports}
use Rattle.scc_svrun_trace.specs.Traced.{IsTrace, IsUntraced}
use Rattle.scc_tokens_directives.specs.declared.file.Source.{Source}
use Rattle.scc_tokens.specs.Files.{first_part}
use Rattle.scc_trace.specs.Stimulus.{stim_of}
use Rattle.scc_drive_errors.specs.declared.spots.Spot.{Spot}
use Rattle.scc_drive_errors.specs.declared.stopped.Stopped.{Stopped}
use Rattle.scc_drive_errors.specs.declared.stopped.Stopped.TheVariants as stopped
use Rattle.scc_drive.specs.Answer.{AnswersBy, without}
use Rattle.scc_drive.specs.CommandOutcome.{TextOutcome, unread, misnamed, meets, outcome_on, outcome_of_stimulus, outcome_of_steps, LongTextOutcome, TextFileOutcome, TextsOutcome}
use Rattle.scc_drive.specs.Outcome.{Outcome, refusal, absent, runs, wider, tracing, RefusesBy}
use Rattle.scc_drive_errors.specs.Spots.{spot_in, first_spot}
use Rattle.scc_drive.specs.Stages.{Gives, Asking, Asked, IsHeld, IsNoModule}
use Rattle.scc_drive.specs.Stops.{IsOfText}
use Rattle.scc_drive_errors.specs.Stops.{StopsAt, StoppedIn}
use Rattle.scc_drive.proofs.Wider.{answers_since}
use Rattle.scc_drive.proofs.Without.{without_none, still_held}

-- ---- the file of the text

none_held : (shelf : Shelf) (name : List ℕ) → shelf name ≡ None → first_part shelf name ≡ None
none_held shelf name e = ap (option_map (take 1048577)) e

abbrev is_memory : Stopped → Bool
is_memory stopped.BadWords = false
is_memory (stopped.Refused code spot other) = false
is_memory (stopped.Missing n) = false
is_memory (stopped.Failed n) = false
is_memory stopped.NoMemory = true

not_memory : (s : Stopped) → is_memory s ≡ false → s ≡ stopped.NoMemory → ⊥
not_memory s f e = true≢false (sym (ap is_memory e) ∙ f)

same_bytes : (a b : List ℕ) → bytes_eq a b ≡ true → a ≡ b
same_bytes a b e = (bytes_eq-Decides a b).0 e

bytes_same : (a : List ℕ) → bytes_eq a a ≡ true
bytes_same a = (bytes_eq-Decides a a).1 refl

-- a shelf with the same in each file
abbrev all_of : List ℕ → Shelf
all_of bytes name = Some bytes

whole_part : (bytes : List ℕ) → length bytes ≤ 1048577 → option_map (take 1048577) (Some bytes) ≡ Some bytes
whole_part bytes h = ap Some (take_all 1048577 bytes h)

is_long : (n : ℕ) → n ≡ 1048577 → nat_lt 1048576 n ≡ true
is_long n e = subst (λ n. nat_lt 1048576 n ≡ true) (sym e) refl

is_short : (n : ℕ) → n ≤ 1048576 → nat_lt 1048576 n ≡ false
is_short n h = le-ltb 1048576 n h

none_without : (n name : List ℕ) (shelf : Shelf) → n ≡ name → first_part (without n shelf) name ≡ None
none_without n name shelf e = ap (λ x. first_part (without x shelf) name) e ∙ none_held (without name shelf) name (without_none name shelf)

module _ (plain : Bool) (top name stim : List ℕ) (held : Option Shelf) where
  no_text : (shelf : Shelf) → first_part shelf name ≡ None → TextsOutcome plain top name stim shelf (absent name)
  no_text shelf e = subst (λ t. TextFileOutcome plain top name stim t (first_part shelf stim) (absent name)) (sym e) refl

  long_text : (shelf : Shelf) (bytes : List ℕ) → length bytes ≡ 1048577 → first_part shelf name ≡ Some bytes → TextsOutcome plain top name stim shelf (refusal FileTooLong (first_spot name))
  long_text shelf bytes l e =
      subst (λ t. TextFileOutcome plain top name stim t (first_part shelf stim) (refusal FileTooLong (first_spot name))) (sym e)
      (subst (λ b. LongTextOutcome b plain top (record { name = name; bytes = bytes }) stim (first_part shelf stim) (refusal FileTooLong (first_spot name))) (sym (is_long (length bytes) l)) refl)

  -- the answers where the text isn't given
  pub text_unasked : (m m' f f' : ℕ) (s : Stopped) → Asked name held m m' f f' (Err s) → AnswersBy (TextsOutcome plain top name stim) top held m m' f f' (Err s)
  text_unasked m m' f f' (stopped.Refused code spot other) q =
      let b = q.3.0 in
      let way : RefusesBy (refusal FileTooLong (first_spot name)) code spot other = (q.0, q.1, q.2) in (
        (all_of b, (refusal FileTooLong (first_spot name), long_text (all_of b) b q.3.1 (whole_part b (omega (arith, q.3.1))), way)),
        λ shelf e. (refusal FileTooLong (first_spot name), long_text shelf b q.3.1 (q.3.2 shelf e), way),
      )
  text_unasked m m' f f' (stopped.Missing n) q = (
    q.1,
    ((λ x. None), (absent name, no_text (λ x. None) refl, q.0)),
    λ shelf e. (absent name, no_text shelf (none_held shelf name (q.2 shelf e)), q.0),
    subst (λ x. Told held (λ shelf. shelf x ≡ None)) (sym q.0) q.2,
  )
  text_unasked m m' f f' (stopped.Failed n) q = (
    q.1,
    ((λ x. None), (absent name, no_text (λ x. None) refl, q.0)),
    λ shelf e. inl (absent name, no_text (without n shelf) (none_without n name shelf q.0), q.0),
  )
  text_unasked m m' f f' stopped.NoMemory q = tt
  text_unasked m m' f f' stopped.BadWords q = absurd q

-- ---- the text

-- what a text of another form than one module comes to
abbrev pub FormComes : List ℕ → Source → Outcome → Type 0
FormComes stim text o = o ≡ wider (tracing stim) (text ∷ [])

pub form_stops : (stim top : List ℕ) (text : Source) (held : Option Shelf) (m m' f f' : ℕ) (s : Stopped) → IsOfText text s → Asking (FormComes stim text) top held m m' f f' (Err s)
form_stops stim top text held m m' f f' (stopped.Refused code spot other) h = (wider (tracing stim) (text ∷ []), refl, inl h)
form_stops stim top text held m m' f f' stopped.NoMemory h = tt
form_stops stim top text held m m' f f' stopped.BadWords h = absurd h
form_stops stim top text held m m' f f' (stopped.Missing n) h = absurd h
form_stops stim top text held m m' f f' (stopped.Failed n) h = absurd h

module _ (top name bytes stim : List ℕ) (short : length bytes ≤ 1048576) (held : Option Shelf) (told : IsHeld held name bytes) where
  abbrev text_file : Source
  text_file = record { name = name; bytes = bytes }

  come_by : (plain : Bool) (shelf : Shelf) (o : Outcome) → first_part shelf name ≡ Some bytes → LongTextOutcome false plain top text_file stim (first_part shelf stim) o → TextsOutcome plain top name stim shelf o
  come_by plain shelf o e c =
      subst (λ t. TextFileOutcome plain top name stim t (first_part shelf stim) o) (sym e)
      (subst (λ b. LongTextOutcome b plain top text_file stim (first_part shelf stim) o) (sym (is_short (length bytes) short)) c)

  come : (shelf : Shelf) (given : Option (List ℕ)) (o : Outcome) → first_part shelf name ≡ Some bytes → first_part shelf stim ≡ given → TextOutcome top text_file stim given o → TextsOutcome true top name stim shelf o
  come shelf given o e d c = come_by true shelf o e (subst (λ g. TextOutcome top text_file stim g o) (sym d) c)

  -- a shelf with the text_file and a stimulus
  abbrev two : Option (List ℕ) → Shelf
  two given n = if bytes_eq n stim then given else Some bytes

  abbrev Fits : Option (List ℕ) → Type 0
  Fits given = (option_map (take 1048577) given ≡ given) × (name ≡ stim → given ≡ Some bytes)

  two_stim : (given : Option (List ℕ)) → Fits given → first_part (two given) stim ≡ given
  two_stim given h = ap (λ b. option_map (take 1048577) (if b then given else Some bytes)) (bytes_same stim) ∙ h.0

  two_name : (given : Option (List ℕ)) → Fits given → first_part (two given) name ≡ Some bytes
  two_name given h = go (bytes_eq name stim) refl
    where
      go : (b : Bool) → bytes_eq name stim ≡ b → option_map (take 1048577) (if b then given else Some bytes) ≡ Some bytes
      go true e = h.0 ∙ h.1 (same_bytes name stim e)
      go false e = whole_part bytes (omega (arith, short))

  come_two : (given : Option (List ℕ)) (o : Outcome) → Fits given → TextOutcome top text_file stim given o → TextsOutcome true top name stim (two given) o
  come_two given o h c = come (two given) given o (two_name given h) (two_stim given h) c

  in_form : (shelf : Shelf) (o : Outcome) → first_part shelf name ≡ Some bytes → FormComes stim text_file o → TextsOutcome false top name stim shelf o
  in_form shelf o e c = come_by false shelf o e c

  somewhere : (o : Outcome) → FormComes stim text_file o → TextsOutcome false top name stim (all_of bytes) o
  somewhere o c = in_form (all_of bytes) o (whole_part bytes (omega (arith, short))) c

  pub form_answers : (m m' f f' : ℕ) (r : Result (List ℕ) Stopped) → Asking (FormComes stim text_file) top held m m' f f' r → AnswersBy (TextsOutcome false top name stim) top held m m' f f' r
  form_answers m m' f f' (Ok trace) g = ((all_of bytes, (g.0, somewhere g.0 g.1, g.2)), λ shelf e. (g.0, in_form shelf g.0 (told shelf e) g.1, g.2))
  form_answers m m' f f' (Err (stopped.Refused code spot other)) g = ((all_of bytes, (g.0, somewhere g.0 g.1, g.2)), λ shelf e. (g.0, in_form shelf g.0 (told shelf e) g.1, g.2))
  form_answers m m' f f' (Err stopped.NoMemory) g = tt
  form_answers m m' f f' (Err stopped.BadWords) g = absurd g
  form_answers m m' f f' (Err (stopped.Missing n)) g =
      (g.0, (all_of bytes, (g.1.0, somewhere g.1.0 g.1.1, g.1.2)), λ shelf e. (g.1.0, in_form shelf g.1.0 (told shelf e) g.1.1, g.1.2), g.2)
  form_answers m m' f f' (Err (stopped.Failed n)) g =
      (g.0, (all_of bytes, (g.1.0, somewhere g.1.0 g.1.1, g.1.2)), λ shelf e. inr (g.1.0, in_form shelf g.1.0 (told shelf e) g.1.1, g.1.2))

  -- the answers where the text_file is refused
  pub text_stops : (m m' f f' : ℕ) (s : Stopped) → IsNoModule top text_file s → AnswersBy (TextsOutcome true top name stim) top held m m' f f' (Err s)
  text_stops m m' f f' (stopped.Refused code spot other) h =
      let o = refusal code spot in (
        (all_of bytes, (o, come (all_of bytes) (first_part (all_of bytes) stim) o (whole_part bytes (omega (arith, short))) refl (h.0 stim (first_part (all_of bytes) stim)), (refl, refl, h.1))),
        λ shelf e. (o, come shelf (first_part shelf stim) o (told shelf e) refl (h.0 stim (first_part shelf stim)), (refl, refl, h.1)),
      )
  text_stops m m' f f' stopped.NoMemory h = tt
  text_stops m m' f f' stopped.BadWords h = absurd h
  text_stops m m' f f' (stopped.Missing n) h = absurd h
  text_stops m m' f f' (stopped.Failed n) h = absurd h

  -- ---- its module

  module _ (top_module : SvModule) (read : ReadAs false bytes top_module) (named : top_module.name ≡ top) where
    met : (given : Option (List ℕ)) (o : Outcome) → outcome_on top_module stim given ≡ o → TextOutcome top text_file stim given o
    met given o e = subst (TextOutcome top text_file stim given) e (meets top_module read named)

    long_given : (b : List ℕ) → length b ≡ 1048577 → outcome_on top_module stim (Some b) ≡ refusal FileTooLong (first_spot stim)
    long_given b l = ap (outcome_of_stimulus top_module (record { name = stim; bytes = b })) (is_long (length b) l)

    -- the answers where the stimulus isn't given
    pub stimulus_unasked : (m m' f f' : ℕ) (s : Stopped) → Asked stim held m m' f f' (Err s) → (stim ≡ name → s ≡ stopped.NoMemory)
        → AnswersBy (TextsOutcome true top name stim) top held m m' f f' (Err s)
    stimulus_unasked m m' f f' (stopped.Refused code spot other) q never =
        let b = q.3.0 in
        let o = refusal FileTooLong (first_spot stim) in
        let way : RefusesBy o code spot other = (q.0, q.1, q.2) in (
          (two (Some b), (o, come_two (Some b) o (whole_part b (omega (arith, q.3.1)), λ e. absurd (not_memory _ refl (never (sym e)))) (met (Some b) o (long_given b q.3.1)), way)),
          λ shelf e. (o, come shelf (Some b) o (told shelf e) (q.3.2 shelf e) (met (Some b) o (long_given b q.3.1)), way),
        )
    stimulus_unasked m m' f f' (stopped.Missing n) q never = (
      q.1,
      (two None, (absent stim, come_two None (absent stim) (refl, λ e. absurd (not_memory _ refl (never (sym e)))) (met None (absent stim) refl), q.0)),
      λ shelf e. (absent stim, come shelf None (absent stim) (told shelf e) (none_held shelf stim (q.2 shelf e)) (met None (absent stim) refl), q.0),
      subst (λ x. Told held (λ shelf. shelf x ≡ None)) (sym q.0) q.2,
    )
    stimulus_unasked m m' f f' (stopped.Failed n) q never = (
      q.1,
      (two None, (absent stim, come_two None (absent stim) (refl, λ e. absurd (not_memory _ refl (never (sym e)))) (met None (absent stim) refl), q.0)),
      λ shelf e. inl (
        absent stim,
        come (without n shelf) None (absent stim) (still_held n shelf name bytes (λ d. absurd (not_memory _ refl (never (sym (d ∙ q.0))))) (told shelf e)) (none_without n stim shelf q.0) (met None (absent stim) refl),
        q.0,
      ),
    )
    stimulus_unasked m m' f f' stopped.NoMemory q never = tt
    stimulus_unasked m m' f f' stopped.BadWords q never = absurd q

    short_given : (b : List ℕ) → length b ≤ 1048576 → outcome_on top_module stim (Some b) ≡ outcome_of_stimulus top_module (record { name = stim; bytes = b }) false
    short_given b l = ap (outcome_of_stimulus top_module (record { name = stim; bytes = b })) (is_short (length b) l)

    -- the answers for a stimulus
    pub stimulus_given : (m m' f f' : ℕ) (b : List ℕ) (r : Result (List ℕ) Stopped) → length b ≤ 1048576 → IsHeld held stim b → (stim ≡ name → b ≡ bytes)
        → Gives (λ o. o ≡ outcome_of_stimulus top_module (record { name = stim; bytes = b }) false) top r → AnswersBy (TextsOutcome true top name stim) top held m m' f f' r
    stimulus_given m m' f f' b (Ok trace) l given again g = (
      (two (Some b), (g.0, come_two (Some b) g.0 (whole_part b (omega (arith, l)), λ e. ap Some (again (sym e))) (met (Some b) g.0 (short_given b l ∙ sym g.1)), g.2)),
      λ shelf e. (g.0, come shelf (Some b) g.0 (told shelf e) (given shelf e) (met (Some b) g.0 (short_given b l ∙ sym g.1)), g.2),
    )
    stimulus_given m m' f f' b (Err (stopped.Refused code spot other)) l given again g = (
      (two (Some b), (g.0, come_two (Some b) g.0 (whole_part b (omega (arith, l)), λ e. ap Some (again (sym e))) (met (Some b) g.0 (short_given b l ∙ sym g.1)), g.2)),
      λ shelf e. (g.0, come shelf (Some b) g.0 (told shelf e) (given shelf e) (met (Some b) g.0 (short_given b l ∙ sym g.1)), g.2),
    )
    stimulus_given m m' f f' b (Err stopped.NoMemory) l given again g = tt
    stimulus_given m m' f f' b (Err stopped.BadWords) l given again g = absurd g
    stimulus_given m m' f f' b (Err (stopped.Missing n)) l given again g = absurd g
    stimulus_given m m' f f' b (Err (stopped.Failed n)) l given again g = absurd g

-- ---- reading and running

no_module : (top : List ℕ) (text : Source) (code : Code) (spot : Spot) (s : Stopped) → ((stim : List ℕ) (given : Option (List ℕ)) → TextOutcome top text stim given (refusal code spot))
    → StopsAt code spot s → IsNoModule top text s
no_module top text code spot (stopped.Refused c p other) comes h =
    ((λ stim given. subst (λ q. TextOutcome top text stim given (refusal c q)) (sym h.1) (subst (λ d. TextOutcome top text stim given (refusal d spot)) (sym h.0) (comes stim given))), h.2)
no_module top text code spot stopped.NoMemory comes h = tt
no_module top text code spot stopped.BadWords comes h = absurd h
no_module top text code spot (stopped.Missing n) comes h = absurd h
no_module top text code spot (stopped.Failed n) comes h = absurd h

pub is_unread : (top : List ℕ) (text : Source) (x : Stop) (s : Stopped) → RefusedAs false text.bytes x → ReadBack false text.bytes (Err x) → StoppedIn text x s → IsNoModule top text s
is_unread top text (stop.Refused r) s refused back h = no_module top text r.code (spot_in (Some text) r.place.at) s (λ stim given. unread r refused back) h
is_unread top text stop.NoMemory s refused back h = subst (IsNoModule top text) (sym h) tt

pub is_misnamed : (top : List ℕ) (text : Source) (m : SvModule) (s : Stopped) → ReadAs false text.bytes m → m.name ≢ top → StopsAt SvName (spot_in (Some text) 7) s → IsNoModule top text s
is_misnamed top text m s read other h = no_module top text SvName (spot_in (Some text) 7) s (λ stim given. misnamed m read other) h

abbrev refusal_in : Stop → Option Refusal
refusal_in (stop.Refused r) = Some r
refusal_in stop.NoMemory = None

some_same : (a b : Refusal) → Some a ≡ Some b → a ≡ b
some_same a b e = ap (λ (x : Option Refusal). unwrap_or x a) e

module _ (m : SvModule) (s : Source) (top : List ℕ) where
  abbrev pub Steps : Result (List ℕ) Stopped → Type 0
  Steps r = Gives (λ o. o ≡ outcome_of_stimulus m s false) top r

  pub trace_given : (text : List ℕ) → IsTrace 0 m s.bytes text → Steps (Ok text)
  trace_given text t = (runs m s.bytes, sym (ap (outcome_of_steps m s) t.said), t)

  stops_at : (r : Refusal) (x : Stopped) → stim_of 0 (in_ports m) s.bytes ≡ Err r → StopsAt r.code (spot_in (Some s) r.place.at) x → Steps (Err x)
  stops_at r (stopped.Refused code spot other) e h = (refusal r.code (spot_in (Some s) r.place.at), sym (ap (outcome_of_steps m s) e), h)
  stops_at r stopped.NoMemory e h = tt
  stops_at r stopped.BadWords e h = absurd h
  stops_at r (stopped.Missing n) e h = absurd h
  stops_at r (stopped.Failed n) e h = absurd h

  pub trace_refused : (x : Stop) (y : Stopped) → IsUntraced 0 m s.bytes x → StoppedIn s x y → Steps (Err y)
  trace_refused stop.NoMemory y u h = subst (λ z. Steps (Err z)) (sym h) tt
  trace_refused (stop.Refused r) y (inl e) h = absurd (true≢false (ap (λ x. is_some (refusal_in x)) e))
  trace_refused (stop.Refused r) y (inr u) h =
      let same : r ≡ u.refusal = some_same r u.refusal (ap refusal_in u.said) in
      stops_at r y (u.stands ∙ ap Err (sym same)) h

-- ---- the whole command

-- the answers where the text was read
pub text_answered : (plain plain' : Bool) (top top' name name' stim stim' : List ℕ) (held held' : Option Shelf) (m0 m m' f0 f f' : ℕ) (r : Result (List ℕ) Stopped) → plain ≡ plain' → top' ≡ top → name' ≡ name
    → stim' ≡ stim → held' ≡ held → m0 ≤ m → f0 ≤ f → AnswersBy (TextsOutcome plain' top' name' stim') top' held' m m' f f' r → AnswersBy (TextsOutcome plain top name stim) top held m0 m' f0 f' r
text_answered plain plain' top top' name name' stim stim' held held' m0 m m' f0 f f' r p a b c same q s x =
    answers_since (TextsOutcome plain top name stim) top held held' m0 m m' f0 f f' r same q s
    (subst (λ d. AnswersBy (TextsOutcome d top name stim) top held' m m' f f' r) (sym p)
    (subst (λ d. AnswersBy (TextsOutcome plain' top name d) top held' m m' f f' r) c
    (subst (λ d. AnswersBy (TextsOutcome plain' top d stim') top held' m m' f f' r) b (subst (λ d. AnswersBy (TextsOutcome plain' d name' stim') d held' m m' f f' r) a x))))

pub unasked_answered : (plain : Bool) (top name name' stim : List ℕ) (held : Option Shelf) (m m' f f' : ℕ) (x : Stopped) → name' ≡ name → Asked name' held m m' f f' (Err x)
    → AnswersBy (TextsOutcome plain top name stim) top held m m' f f' (Err x)
unasked_answered plain top name name' stim held m m' f f' x b asked = text_unasked plain top name stim held m m' f f' x (subst (λ d. Asked d held m m' f f' (Err x)) b asked)
