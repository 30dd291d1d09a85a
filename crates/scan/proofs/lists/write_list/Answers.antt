use Rattle.algebra.proofs.Fields.{field_of}
use Rattle.frames.specs.Rows.{generator_in}
use Rattle.scan.proofs.Degrees.{the_degree}
use Rattle.scan.proofs.PlaceLists.{list_written}
use Rattle.scan.proofs.lists.write_list.Goals as goal

pub returns : goal.returns
returns g c k l =
    let f = g.F.Field in
    let laws = g.met.F.Field in
    let row = c.args.row.now in
    let degree = the_degree f.ops (field_of laws.laws laws.numbered laws.invertible) (generator_in f.ops f.member row.entries.now) row.d row.n row.degree in
    list_written f.ops laws.laws.ring f.member row.n row.d c.args.q row.entries.now c.clear.new.table c.copy_from.new.table
    row.sized.0 row.sized.1.1 degree.bounded c.clear.ensures c.copy_from.ensures.copy c.copy_from.ensures.others k
