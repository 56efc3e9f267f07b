-- What the map is refused with; and a value that begins there is one of the map, so it has at most 8 bytes and ends at 255.
-- Assumes nothing.
use Rattle.std.proofs.Common.{◌≡◌, Some, sym, ◌∙◌, rules}
use Rattle.std.proofs.lemmas.Result.{err_from_is_err_and}
use Rattle.records.proofs.Members.{member_fields}
use Rattle.session.proofs.Numbered.{begins_in, map_refused}
use Rattle.session.proofs.writer.session.Goals as goal

pub returns-in_err-map : goal.returns-in_err-map
returns-in_err-map c =
    let p = err_from_is_err_and c.from_residual.result c.from_residual.ensures.1 in
    rw (p.1, p.2) (map_refused c.args.map.now c.args.address c.args.bank c.args.location c.args.bytes.now _ c.in_err-map.ensures.number)

pub for_value-requires : goal.for_value-requires
for_value-requires c =
    let some : c.begins_at.result ≡ Some c.in_ok-r.r = search rules in
    let b = begins_in c.in_ok-map.map.bytes.now c.args.bank c.args.location _ (sym c.begins_at.ensures ∙ some) in
    let f = member_fields c.in_ok-map.map.bytes.now c.in_ok-map.map.in_order _ b.0 in
    (f.most_width, f.last)
