-- A file that is asked for.
use Rattle.std.proofs.Common.{◌≡◌, ◌<◌, ◌≤◌, ℕ, zero, suc, ◌+◌, List, [], ◌∷◌, ◌++◌, length, Option, Some, None, Result, Ok, Err, slice_get, refl, sym, ap, subst, ◌∙◌, length-append, arith}
use Rattle.scc_base.specs.Outside.{Shelf}
use Rattle.scc_base.specs.declared.code.Code.{Code}
use Rattle.scc_base.specs.declared.refusal.Place.{Place}
use Rattle.scc_tokens.specs.Files.{HoldsAll, Asked, asked, asked_by, read_by, lexed_by, number_of, names_read, file_of, FileIs, NamesStay, Unread, AnswersIn, HasRoom, AllShort, FilesSay}
use Rattle.scc_tokens_directives.specs.declared.directive.Words.{Words}
use Rattle.scc_tokens_directives.specs.declared.file.File.{File}
use Rattle.scc_tokens_directives.specs.declared.file.Source.{Source}
use Rattle.scc_tokens_directives.specs.declared.halt.Halt.{Halt}
use Rattle.scc_tokens_directives.specs.declared.halt.Halt.TheVariants as halt
use Rattle.scc_tokens.proofs.Numbered.{holds_less}
use Rattle.scc_tokens.proofs.Shelving.{short_more}

pub last_is : {A : Type 0} (xs : List A) (x : A) → slice_get (xs ++ x ∷ []) (length xs) ≡ Some x
last_is [] x = refl
last_is (y ∷ ys) x = last_is ys x

-- a file that wasn't asked for before is read, and then cut
asked_new : (shelf : Shelf) (w : Words) (name bytes : List ℕ) (known : List File) (src src' : List Source) (names names' : List (List ℕ)) → None ≡ number_of src name
    → src' ≡ src ++ record { name = name; bytes = bytes } ∷ [] → names' ≡ names_read names bytes → HoldsAll shelf src'
    → asked shelf w name (record { known = known; sources = src; names = names }) ≡ lexed_by (record { known = known; sources = src'; names = names' }) (length src) (file_of names' w (length src) bytes)
asked_new shelf w name bytes known src src' names names' none e n holds =
    let s : Source = record { name = name; bytes = bytes } in
    let a : Asked = record { known = known; sources = src; names = names } in
    let held = (holds_less shelf src s (subst (HoldsAll shelf) e holds)).1 in
    ap (asked_by shelf w name a) (sym none) ∙ ap (read_by shelf w name a) held
    ∙ ap (λ l. lexed_by (record { known = known; sources = l; names = names_read names bytes }) (length src) (file_of (names_read names bytes) w (length src) bytes)) (sym e)
    ∙ ap (λ ns. lexed_by (record { known = known; sources = src'; names = ns }) (length src) (file_of ns w (length src) bytes)) (sym n)

pub asked_bad : (shelf : Shelf) (w : Words) (name bytes : List ℕ) (known : List File) (src src' : List Source) (names names' : List (List ℕ)) (e : Halt) → None ≡ number_of src name
    → src' ≡ src ++ record { name = name; bytes = bytes } ∷ [] → NamesStay {A = File} (Err e) names' (names_read names bytes) → HoldsAll shelf src' → FileIs (Err e) (file_of names' w (length src) bytes)
    → AnswersIn {A = ℕ} (λ n. n) shelf (record { known = known; sources = src'; names = names' }) (Err e) (asked shelf w name (record { known = known; sources = src; names = names }))
asked_bad shelf w name bytes known src src' names names' (halt.Refused c p) none e n holds h =
    asked_new shelf w name bytes known src src' names names' none e n holds ∙ ap (lexed_by (record { known = known; sources = src'; names = names' }) (length src)) h
asked_bad shelf w name bytes known src src' names names' (halt.Missing x) none e n holds h = absurd h
asked_bad shelf w name bytes known src src' names names' (halt.Failed x) none e n holds h = absurd h
asked_bad shelf w name bytes known src src' names names' halt.NoMemory none e n holds h = tt

pub asked_good : (shelf : Shelf) (w : Words) (name bytes : List ℕ) (known known' : List File) (src src' : List Source) (names names' : List (List ℕ)) (file : File) → None ≡ number_of src name
    → src' ≡ src ++ record { name = name; bytes = bytes } ∷ [] → names' ≡ names_read names bytes → HoldsAll shelf src' → file_of names' w (length src) bytes ≡ Ok file → known' ≡ known ++ file ∷ []
    → asked shelf w name (record { known = known; sources = src; names = names }) ≡ (record { known = known'; sources = src'; names = names' }, Ok (length src))
asked_good shelf w name bytes known known' src src' names names' file none e n holds h k =
    asked_new shelf w name bytes known src src' names names' none e n holds
    ∙ ap (lexed_by (record { known = known; sources = src'; names = names' }) (length src)) h
    ∙ ap (λ l. (record { known = l; sources = src'; names = names' }, Ok (length src))) (sym k)

-- what is cut is no file that is missing
pub cut_unread : (src : List Source) (e : Halt) (r : Result File (Code × Place)) → FileIs (Err e) r → Unread src (Some e)
cut_unread src (halt.Refused c p) r h = tt
cut_unread src (halt.Missing x) r h = absurd h
cut_unread src (halt.Failed x) r h = absurd h
cut_unread src halt.NoMemory r h = tt

pub short_at : (ss : List Source) (i : ℕ) (s : Source) → AllShort ss → slice_get ss i ≡ Some s → length s.bytes ≤ 1048577
short_at [] i s h e = cc
short_at (x ∷ xs) zero s h e = let same : x ≡ s = cc in subst (λ (y : Source). length y.bytes ≤ 1048577) same h.0
short_at (x ∷ xs) (suc i) s h e = short_at xs i s h.1 e

pub room_more : (names names' : List (List ℕ)) (src src' : List Source) (known known' : List File) (s : Source) (file : File) (bytes : List ℕ)
    → HasRoom names src known → length src < 130 → src' ≡ src ++ s ∷ [] → known' ≡ known ++ file ∷ [] → length names' ≤ length names + length bytes → length bytes ≤ 1048577 → length s.bytes ≤ 1048577
    → HasRoom names' src' known'
room_more names names' src src' known known' s file bytes r few e k n b short =
    let more : length src' ≡ length src + 1 = ap length e ∙ length-append src (s ∷ []) in
    let more_known : length known' ≡ length known + 1 = ap length k ∙ length-append known (file ∷ []) in
    let fit = r.names_fit in
    let same = r.even in
    record { names_fit = omega arith; few = omega arith; even = omega arith; short = subst AllShort (sym e) (short_more src s r.short short) }

-- a later refusal leaves what the files said
pub says_on : (o o' : Option Shelf) (m m' f f' : ℕ) (e : Halt) → FilesSay o o' m m' f f' None → ((n : List ℕ) → e ≡ halt.Missing n → ⊥) → ((n : List ℕ) → e ≡ halt.Failed n → ⊥) → FilesSay o o' m m' f f' (Some e)
says_on o o' m m' f f' e s no_miss no_fail = record {
  kept = s.kept;
  misses = s.misses;
  faults = s.faults;
  missing = λ n h. absurd (no_miss n (let same : e ≡ halt.Missing n = cc in same));
  absent = λ n h. absurd (no_miss n (let same : e ≡ halt.Missing n = cc in same));
  failed = λ n h. absurd (no_fail n (let same : e ≡ halt.Failed n = cc in same));
}

pub cut_says : (o o' : Option Shelf) (m m' f f' : ℕ) (e : Halt) (r : Result File (Code × Place)) → FilesSay o o' m m' f f' None → FileIs (Err e) r → FilesSay o o' m m' f f' (Some e)
cut_says o o' m m' f f' (halt.Refused c p) r s h = says_on o o' m m' f f' (halt.Refused c p) s (λ k g. cc) (λ k g. cc)
cut_says o o' m m' f f' (halt.Missing k) r s h = absurd h
cut_says o o' m m' f f' (halt.Failed k) r s h = absurd h
cut_says o o' m m' f f' halt.NoMemory r s h = says_on o o' m m' f f' halt.NoMemory s (λ k g. cc) (λ k g. cc)

pub same_last : (src src' : List Source) (s t : Source) (n : ℕ) → src' ≡ src ++ s ∷ [] → n ≡ length src → Some t ≡ slice_get src' n → t ≡ s
same_last src src' s t n e k h =
    let last : Some t ≡ Some s = h ∙ ap (λ l. slice_get l n) e ∙ ap (slice_get (src ++ s ∷ [])) k ∙ last_is src s in
    cc
