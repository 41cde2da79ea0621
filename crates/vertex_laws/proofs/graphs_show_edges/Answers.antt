use Rattle.vertex_laws.proofs.Graphs.{tables_show_edges, unions_show_edges}
use Rattle.vertex_laws.proofs.graphs_show_edges.Goals as goal

pub returns : goal.returns
returns c = record { table = tables_show_edges; union = unions_show_edges }
