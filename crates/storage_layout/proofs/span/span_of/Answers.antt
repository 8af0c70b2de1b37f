use Rattle.std.proofs.Common.{◌<◌, length, arith, refl}
use Rattle.std.proofs.lemmas.List.{get_or_read}
use Rattle.std.proofs.lemmas.Option.{slice_get-get_or}
use Rattle.ftn_base.specs.declared.entity.Sort.TheVariants.{Numeric}
use Rattle.storage_layout.proofs.SpanLists.{ends_there}
use Rattle.storage_layout.proofs.span.span_of.Goals as goal

pub returns : goal.returns
returns c =
    let class_there : c.args.number < length c.args.found.now.class.items = omega arith in
    let start_there : c.args.number < length c.args.found.now.offset.items = omega arith in
    let start = get_or_read c.args.found.now.offset.items c.args.number c.index-start.result.now start_there c.index-start.ensures 0 in
    record {
      object = _;
      there = slice_get-get_or c.args.objects.now c.args.number (record { units = 0; sort = Numeric; scope = 0 }) c.requires.there;
      class_is = get_or_read c.args.found.now.class.items c.args.number c.index.result.now class_there c.index.ensures 0;
      sort_is = refl;
      group_is = refl;
      start_is = start;
      end_is = ends_there _ _ _ _ start c.end_of.ensures;
    }
