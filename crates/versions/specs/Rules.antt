-- The two rules by which versions are ordered, and that each keeps the law of version orders.
use Rattle.std.specs.Prelude.{ℕ}
use Rattle.verdicts.specs.Versions.{by_write, by_commit}
use Rattle.verdict_laws.specs.Laws.{Lawful}
use Rattle.versions.specs.declared.order.Rule.{Rule}
use Rattle.versions.specs.declared.order.Rule.TheVariants.{ByWrite, ByCommit}

-- the rank that a rule gives a version, from the position of its writer's last write of the item and that of its commit
abbrev pub ranking : Rule → ℕ → ℕ → ℕ
ranking ByWrite = by_write
ranking ByCommit = by_commit

-- versions that differ in both numbers differ in rank
pub ranking_lawful : (rule : Rule) → Lawful (ranking rule)
ranking_lawful ByWrite write other_write commit other_commit writes commits = writes
ranking_lawful ByCommit write other_write commit other_commit writes commits = commits
