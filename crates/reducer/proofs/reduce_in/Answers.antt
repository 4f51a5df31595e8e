use Rattle.std.specs.Prelude.{refl}
use Rattle.std.proofs.Common.{◌≡◌, arith, rules}
use Rattle.reducer.proofs.Early.{left_none}
use Rattle.reducer.specs.Header.{Counted}
use Rattle.reducer.specs.Run.{none_left, count_bounds, header_fits, header_inside, root_stands, root_inside, root_is, root_given, root_wrote, end_few, end_small, end_fits_lem, kept}
use Rattle.reducer.proofs.reduce_in.Goals as goal

pub copy_header-requires : goal.copy_header-requires
copy_header-requires c = (header_inside c.requires.0, omega (arith, header_fits c.requires.0))

pub invariant_of-record : goal.invariant_of-record
invariant_of-record c = record { inside = root_inside c.requires.0 }

pub invariant_of-remove_unused_expression : goal.invariant_of-remove_unused_expression
invariant_of-remove_unused_expression c = record { stands = root_stands c.requires.0 }

pub remove_unused_expression-end-requires : goal.remove_unused_expression-end-requires
remove_unused_expression-end-requires c = root_given c.requires.0 _ refl (root_is c.requires.0) c.copy_header.ensures (omega arith)

pub write_count-requires : goal.write_count-requires
write_count-requires c = omega (arith, header_fits c.requires.0)

pub overflow_cast-end : goal.overflow_cast-end
overflow_cast-end c = let w = root_wrote c.requires.0 c.remove_unused_expression-end.ensures.wrote in omega (arith, end_few c.requires.0 w, count_bounds c.requires.0)

pub file_length-length-requires : goal.file_length-length-requires
file_length-length-requires c = end_small c.requires.0 (root_wrote c.requires.0 c.remove_unused_expression-end.ensures.wrote)

pub copy_bytes-requires : goal.copy_bytes-requires
copy_bytes-requires c =
    let within = end_fits_lem c.requires.0 (root_wrote c.requires.0 c.remove_unused_expression-end.ensures.wrote) in
    (omega (arith, within, c.file_length-length.ensures), omega (arith, within, c.file_length-length.ensures, c.requires.0.fits))

pub returns : goal.returns
returns c =
    let a = c.remove_unused_expression-end.ensures in
    let left = root_wrote c.requires.0 a.wrote in
    let within = end_fits_lem c.requires.0 left in
    let counts : Counted c.remove_unused_expression-end.new.self.out.now c.write_count.new.out c.remove_unused_expression-end.result =
    let same = a.stays.same_out in
    search rules in
    kept c.requires.0 c.copy_header.ensures left counts (record { small = λ i. grind arith })
    (omega (arith, within, a.stays.long)) (λ (e : c.remove_unused_expression-end.result ≡ 0). omega arith)
    c.file_length-length.ensures c.copy_bytes.ensures c.copy_bytes.auto.out

pub returns-then-end-eq0 : goal.returns-then-end-eq0
returns-then-end-eq0 c =
    let g = c.requires.0 in
    let a = root_wrote g c.remove_unused_expression-end.ensures.wrote in
    none_left g (left_none c.args.src.now (omega (arith, a.spans.ends, c.if-end-eq0.true)))
