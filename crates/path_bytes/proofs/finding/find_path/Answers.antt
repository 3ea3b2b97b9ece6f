-- The search tells of a path or that there is none.
use Rattle.std.proofs.lemmas.Result.{err_from_is_err_and}
use Rattle.search.specs.Spans.{named}
use Rattle.path_bytes.proofs.Replying.{reply_no, readback, reply_yes, reply_short}
use Rattle.path_bytes.proofs.finding.find_path.Goals as goal

pub returns-in_default : goal.returns-in_default
returns-in_default g c = reply_no _ _ _ _ _ _ _ c.requires _ _ _ c.run.ensures (named (g.N.NodeNames.names c.args.names)) c.args.out.now c.in_default.is

pub write-requires : goal.write-requires
write-requires g c = readback _ _ _ _ _ _ _ c.requires _ _ _ c.run.ensures _ c.in-Some.is

pub returns-in_err-write : goal.returns-in_err-write
returns-in_err-write g c =
    let p = err_from_is_err_and c.from_residual.result c.from_residual.ensures.1 in
    rw (p.1, p.2)
    (reply_short _ _ _ _ _ _ _ c.requires _ _ _ c.run.ensures (named (g.N.NodeNames.names c.args.names)) _ _ c.in-Some.is _ _ c.write.ensures _ c.in_err-write.was)

pub returns : goal.returns
returns g c = reply_yes _ _ _ _ _ _ _ c.requires _ _ _ c.run.ensures (named (g.N.NodeNames.names c.args.names)) _ _ c.in-Some.is _ _ c.write.ensures c.in_ok-write.was
