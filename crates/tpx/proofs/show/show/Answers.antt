use Rattle.std.proofs.Common.{◌∷◌, []}
use Rattle.std.proofs.lemmas.Result.{err_from_is_err_and}
use Rattle.mm_text.specs.Reading.{file_of}
use Rattle.tpx.proofs.Reading.{Reads-same}
use Rattle.tpx.proofs.Showing.{gives-reading, gives-showing, gives-writing, showing-read, writing-read, touches-writing, rose-reading, rose-showing, rose-writing, named-reading, named-showing, named-writing, wire-reading, wire-showing, wire-writing}
use Rattle.tpx.proofs.show.show.Goals as goal

pub returns-in_err-file-clause-gives : goal.returns-in_err-file-clause-gives
returns-in_err-file-clause-gives g c =
    let p = err_from_is_err_and c.from_residual.result c.from_residual.ensures.1 in
    rw (p.1, p.2) (gives-reading (g.F.Files.told c.args.files.now) g.O.Sink.told c.args.name.now c.args.out.now _ c.in_err-file.ensures.fault)

pub returns-in_err-file-clause-unread : goal.returns-in_err-file-clause-unread
returns-in_err-file-clause-unread g c =
    let p = err_from_is_err_and c.from_residual.result c.from_residual.ensures.1 in
    rw (p.1, p.2)
    (rose-reading (g.F.Files.faults c.args.files.now) (g.F.Files.faults c.read_shown.new.files) (g.F.Files.told c.args.files.now) c.args.name.now _ c.in_err-file.ensures.fault
    c.in_err-file.ensures.reads.fault)

pub returns-in_err-cells-clause-gives : goal.returns-in_err-cells-clause-gives
returns-in_err-cells-clause-gives g c =
    let p = err_from_is_err_and c.from_residual-in_err-cells.result c.from_residual-in_err-cells.ensures.1 in
    rw (p.1, p.2)
    (gives-showing (g.F.Files.told c.args.files.now) g.O.Sink.told c.args.name.now c.args.out.now (file_of c.in_ok-file.file) _ c.in_ok-file.ensures.accepted c.in_err-cells.ensures.fault)

pub returns-in_err-cells-clause-reads : goal.returns-in_err-cells-clause-reads
returns-in_err-cells-clause-reads g c =
    let p = err_from_is_err_and c.from_residual-in_err-cells.result c.from_residual-in_err-cells.ensures.1 in
    rw (p.1, p.2)
    (Reads-same _ _ _ _ _ _ _ (λ u. absurd (showing-read (Unit {0}) _ _ c.in_err-cells.ensures.fault u)) (λ h. absurd h) c.in_ok-file.ensures.reads)

pub returns-in_err-cells-clause-unread : goal.returns-in_err-cells-clause-unread
returns-in_err-cells-clause-unread g c =
    let p = err_from_is_err_and c.from_residual-in_err-cells.result c.from_residual-in_err-cells.ensures.1 in
    rw (p.1, p.2)
    (rose-showing (g.F.Files.faults c.args.files.now) (g.F.Files.faults c.read_shown.new.files) _ _ c.in_err-cells.ensures.fault)

pub returns-clause-gives : goal.returns-clause-gives
returns-clause-gives g c =
    gives-writing (g.F.Files.told c.args.files.now) g.O.Sink.told c.args.name.now g.O.Sink.faults c.args.out.now c.write_matrix.new.out (file_of c.in_ok-file.file) c.write_matrix.result
    c.in_ok-file.ensures.accepted c.in_ok-cells.ensures.none_over c.write_matrix.ensures.writes c.write_matrix.ensures.fault

pub returns-clause-reads : goal.returns-clause-reads
returns-clause-reads g c =
    Reads-same _ _ _ _ _ _ _ (λ u. absurd (writing-read c.write_matrix.result c.write_matrix.ensures.fault u)) (λ h. absurd h) c.in_ok-file.ensures.reads

pub returns-clause-untouched : goal.returns-clause-untouched
returns-clause-untouched g c = touches-writing c.write_matrix.result _ c.write_matrix.ensures.fault

pub returns-clause-unread : goal.returns-clause-unread
returns-clause-unread g c = rose-writing (g.F.Files.faults c.args.files.now) (g.F.Files.faults c.read_shown.new.files) c.write_matrix.result c.write_matrix.ensures.fault

pub returns-in_err-file-clause-named : goal.returns-in_err-file-clause-named
returns-in_err-file-clause-named g c =
    let p = err_from_is_err_and c.from_residual.result c.from_residual.ensures.1 in
    rw (p.1, p.2) (named-reading (g.F.Files.told c.args.files.now) c.args.name.now _ c.in_err-file.ensures.fault)

pub returns-in_err-file-clause-on_no_wire : goal.returns-in_err-file-clause-on_no_wire
returns-in_err-file-clause-on_no_wire g c =
    let p = err_from_is_err_and c.from_residual.result c.from_residual.ensures.1 in
    rw (p.1, p.2) (wire-reading (g.F.Files.told c.args.files.now) c.args.name.now _ c.in_err-file.ensures.fault)

pub returns-in_err-cells-clause-named : goal.returns-in_err-cells-clause-named
returns-in_err-cells-clause-named g c =
    let p = err_from_is_err_and c.from_residual-in_err-cells.result c.from_residual-in_err-cells.ensures.1 in
    rw (p.1, p.2) (named-showing (c.args.name.now ∷ []) _ _ c.in_err-cells.ensures.fault)

pub returns-in_err-cells-clause-on_no_wire : goal.returns-in_err-cells-clause-on_no_wire
returns-in_err-cells-clause-on_no_wire g c =
    let p = err_from_is_err_and c.from_residual-in_err-cells.result c.from_residual-in_err-cells.ensures.1 in
    rw (p.1, p.2) (wire-showing _ _ c.in_err-cells.ensures.fault)

pub returns-clause-named : goal.returns-clause-named
returns-clause-named g c = named-writing (c.args.name.now ∷ []) c.write_matrix.result c.write_matrix.ensures.fault

pub returns-clause-on_no_wire : goal.returns-clause-on_no_wire
returns-clause-on_no_wire g c = wire-writing c.write_matrix.result c.write_matrix.ensures.fault
