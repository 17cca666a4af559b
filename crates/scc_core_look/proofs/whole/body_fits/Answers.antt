use Rattle.std.proofs.Common.{◌≡◌, ◌∙◌, ap, true, map}
use Rattle.scc_core_view.specs.Codes.{code_of}
use Rattle.scc_core_view.specs.Programs.{cell_of, process_of}
use Rattle.scc_core_look.specs.Fits.{body_fits}
use Rattle.scc_core_look.proofs.Alike.{each-ok}
use Rattle.scc_core_look.proofs.Dry.{good_body}
use Rattle.scc_core_look.proofs.whole.body_fits.Goals as goal

pub returns : goal.returns
returns c = λ vectors table apart names whole covered.
    each-ok _ (λ b. b ≡ true → body_fits (map cell_of c.args.cells.now) (process_of c.args.process.now) ≡ true) c.code_fits.result c.code_fits.ensures
    (λ b h e. good_body (record { cells = c.args.cells; places = c.args.places; rows = c.args.rows; process = c.args.process }) (code_of c.as_slice.result.now) (ap code_of c.as_slice.ensures.elements) (h e (record { vectors = vectors; table = table; apart = apart; names = names; whole = whole; covered = covered })))
