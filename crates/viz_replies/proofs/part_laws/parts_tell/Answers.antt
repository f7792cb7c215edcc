use Rattle.viz_replies.proofs.PartTruths.{PartLaws, all_told}
use Rattle.viz_replies.proofs.RawRanges.{raw_range, raw_range_with}
use Rattle.viz_replies.proofs.part_laws.parts_tell.Goals as goal

pub returns : goal.returns
returns c =
    let laws : PartLaws = record {
      all = c.features_are_all.ensures;
      met = c.chosen_are_met.ensures;
      one = c.each_world_has_one_part.ensures.one;
      some = c.each_world_has_one_part.ensures.some;
      same = c.each_world_has_one_part.ensures.same;
      if_part = c.guarded_is_if.ensures;
    } in
    record { tell = all_told laws; ranges = raw_range; ranges_with = raw_range_with }
