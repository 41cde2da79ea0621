use Rattle.std.proofs.Common.{arith}
use Rattle.verdicts.specs.declared.Finding.TheVariants.{G1a, G1b}
use Rattle.verdicts.specs.Versions.{committed}
use Rattle.verdicts.specs.Edges.{every_kind, joined}
use Rattle.verdict_laws.specs.Laws.{RerunLaw, ReportedReplays}
use Rattle.verdict_laws.proofs.Orders.{order_topological}
use Rattle.verdict_laws.proofs.Reruns.{replays}
use Rattle.verdict_laws.proofs.rerun_stands.Goals as goal

rerun_law : RerunLaw
rerun_law rank es real_time order law adm no_g1a no_g1b along = replays rank es real_time order along law adm no_g1a no_g1b

reported_replays : ReportedReplays
reported_replays rank es real_time order law adm holds h =
    rerun_law rank es real_time order law adm (omega (arith, holds G1a)) (omega (arith, holds G1b)) (order_topological (joined rank es real_time every_kind) (committed es) order h)

pub returns : goal.returns
returns c = record { again = rerun_law; reported = reported_replays }
