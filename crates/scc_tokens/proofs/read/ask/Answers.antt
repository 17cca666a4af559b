use Rattle.std.proofs.Common.{◌≡◌, ap, sym, ◌∙◌, subst, None, Ok, Err, length, ◌≤◌}
use Rattle.std.proofs.lemmas.Result.{err_from_is_err_and}
use Rattle.scc_tokens_directives.specs.declared.file.File.{File}
use Rattle.scc_tokens_directives.specs.declared.file.Source.{Source}
use Rattle.scc_tokens.specs.Files.{number_of, names_read, file_of, FileIs, NamesStay}
use Rattle.scc_tokens.proofs.Asking.{asked_bad, asked_good, room_more, cut_says, cut_unread, same_last}
use Rattle.scc_tokens.proofs.Shelving.{reads_one}
use Rattle.scc_tokens.proofs.read.ask.Goals as goal

pub returns-in_err-file-clause-value : goal.returns-in_err-file-clause-value
returns-in_err-file-clause-value g c = λ shelf holds.
    let fetched = c.in_ok-fetch.ensures.ok in
    let s : Source = record { name = c.args.name.now; bytes = fetched.0 } in
    let count : c.len-number.result ≡ length c.args.sources.now = c.len-number.ensures.length in
    let source : c.in-Some-get.source.now ≡ s = same_last c.args.sources.now c.fetch.new.sources s c.in-Some-get.source.now c.len-number.result fetched.1 count c.in-Some-get.ensures.element in
    let none : None ≡ number_of c.args.sources.now c.args.name.now =
    sym c.in_default.is ∙ c.number_of.ensures.value ∙ ap (λ l. number_of l c.as_bytes.result.now) c.as_slice.ensures.elements ∙ ap (number_of c.args.sources.now) c.as_bytes.ensures.value in
    let bytes_are : c.bytes.result.now ≡ fetched.0 = c.bytes.ensures.bytes ∙ ap (λ (x : Source). x.bytes) source in
    let p = err_from_is_err_and c.from_residual-in_err-file.result c.from_residual-in_err-file.ensures.1 in
    rw (p.1, p.2) (asked_bad shelf c.args.words.now c.args.name.now fetched.0 c.args.known.now c.args.sources.now c.fetch.new.sources c.args.names.now c.cut.new.names c.in_err-file.field-0.0 none fetched.1
    (subst (λ b. NamesStay {A = File} (Err c.in_err-file.field-0.0) c.cut.new.names (names_read c.args.names.now b)) bytes_are c.in_err-file.ensures.names) holds
    (subst (λ b. FileIs (Err c.in_err-file.field-0.0) (file_of c.cut.new.names c.args.words.now (length c.args.sources.now) b)) bytes_are
    (subst (λ k. FileIs (Err c.in_err-file.field-0.0) (file_of c.cut.new.names c.args.words.now k c.bytes.result.now)) count c.in_err-file.ensures.value)))

pub returns-in_err-file-clause-reads : goal.returns-in_err-file-clause-reads
returns-in_err-file-clause-reads g c =
    let none : None ≡ number_of c.args.sources.now c.args.name.now =
    sym c.in_default.is ∙ c.number_of.ensures.value ∙ ap (λ l. number_of l c.as_bytes.result.now) c.as_slice.ensures.elements ∙ ap (number_of c.args.sources.now) c.as_bytes.ensures.value in
    reads_one c.args.sources.now c.fetch.new.sources _ c.in_ok-fetch.ensures.ok.1 (sym none) c.in_ok-fetch.ensures.ok.2

pub returns-in_err-file-clause-says : goal.returns-in_err-file-clause-says
returns-in_err-file-clause-says g c =
    let p = err_from_is_err_and c.from_residual-in_err-file.result c.from_residual-in_err-file.ensures.1 in
    rw (p.1, p.2) (cut_says _ _ _ _ _ _ c.in_err-file.field-0.0 _ c.in_ok-fetch.ensures.says c.in_err-file.ensures.value)

pub returns-in_err-file-clause-unread : goal.returns-in_err-file-clause-unread
returns-in_err-file-clause-unread g c =
    let p = err_from_is_err_and c.from_residual-in_err-file.result c.from_residual-in_err-file.ensures.1 in
    rw (p.1, p.2) (cut_unread c.fetch.new.sources c.in_err-file.field-0.0 _ c.in_err-file.ensures.value)

pub returns-in_err-push-clause-reads : goal.returns-in_err-push-clause-reads
returns-in_err-push-clause-reads g c =
    let none : None ≡ number_of c.args.sources.now c.args.name.now =
    sym c.in_default.is ∙ c.number_of.ensures.value ∙ ap (λ l. number_of l c.as_bytes.result.now) c.as_slice.ensures.elements ∙ ap (number_of c.args.sources.now) c.as_bytes.ensures.value in
    reads_one c.args.sources.now c.fetch.new.sources _ c.in_ok-fetch.ensures.ok.1 (sym none) c.in_ok-fetch.ensures.ok.2

pub returns-clause-value : goal.returns-clause-value
returns-clause-value g c = λ shelf holds.
    let fetched = c.in_ok-fetch.ensures.ok in
    let s : Source = record { name = c.args.name.now; bytes = fetched.0 } in
    let count : c.len-number.result ≡ length c.args.sources.now = c.len-number.ensures.length in
    let source : c.in-Some-get.source.now ≡ s = same_last c.args.sources.now c.fetch.new.sources s c.in-Some-get.source.now c.len-number.result fetched.1 count c.in-Some-get.ensures.element in
    let none : None ≡ number_of c.args.sources.now c.args.name.now =
    sym c.in_default.is ∙ c.number_of.ensures.value ∙ ap (λ l. number_of l c.as_bytes.result.now) c.as_slice.ensures.elements ∙ ap (number_of c.args.sources.now) c.as_bytes.ensures.value in
    let bytes_are : c.bytes.result.now ≡ fetched.0 = c.bytes.ensures.bytes ∙ ap (λ (x : Source). x.bytes) source in
    asked_good shelf c.args.words.now c.args.name.now fetched.0 c.args.known.now c.push.new.self c.args.sources.now c.fetch.new.sources c.args.names.now c.cut.new.names c.in_ok-file.file none fetched.1
    (subst (λ b. c.cut.new.names ≡ names_read c.args.names.now b) bytes_are c.in_ok-file.ensures.names) holds
    (subst (λ b. file_of c.cut.new.names c.args.words.now (length c.args.sources.now) b ≡ Ok c.in_ok-file.file) bytes_are
    (subst (λ k. file_of c.cut.new.names c.args.words.now k c.bytes.result.now ≡ Ok c.in_ok-file.file) count c.in_ok-file.ensures.value))
    c.in_ok-push.ensures.ok
    ∙ ap (λ k. (record { known = c.push.new.self; sources = c.fetch.new.sources; names = c.cut.new.names }, Ok k)) (sym count)

pub returns-clause-reads : goal.returns-clause-reads
returns-clause-reads g c =
    let none : None ≡ number_of c.args.sources.now c.args.name.now =
    sym c.in_default.is ∙ c.number_of.ensures.value ∙ ap (λ l. number_of l c.as_bytes.result.now) c.as_slice.ensures.elements ∙ ap (number_of c.args.sources.now) c.as_bytes.ensures.value in
    reads_one c.args.sources.now c.fetch.new.sources _ c.in_ok-fetch.ensures.ok.1 (sym none) c.in_ok-fetch.ensures.ok.2

pub returns-clause-room : goal.returns-clause-room
returns-clause-room g c =
    let fetched = c.in_ok-fetch.ensures.ok in
    let s : Source = record { name = c.args.name.now; bytes = fetched.0 } in
    let source : c.in-Some-get.source.now ≡ s = same_last c.args.sources.now c.fetch.new.sources s c.in-Some-get.source.now c.len-number.result fetched.1 c.len-number.ensures.length c.in-Some-get.ensures.element in
    let bytes_are : c.bytes.result.now ≡ fetched.0 = c.bytes.ensures.bytes ∙ ap (λ (x : Source). x.bytes) source in
    room_more c.args.names.now c.cut.new.names c.args.sources.now c.fetch.new.sources c.args.known.now c.push.new.self s c.in_ok-file.file c.bytes.result.now
    c.requires.room c.requires.few fetched.1 c.in_ok-push.ensures.ok c.in_ok-file.ensures.few (subst (λ b. length b ≤ 1048577) (sym bytes_are) fetched.2) fetched.2
