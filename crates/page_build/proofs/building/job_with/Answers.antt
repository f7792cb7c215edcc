use Rattle.std.proofs.Common.{arith}
use Rattle.page_boxes.specs.Trees.{lists_of}
use Rattle.page_build.proofs.JobFacts.{job_within}
use Rattle.page_build.proofs.building.job_with.Goals as goal

pub invariant_of-result : goal.invariant_of-result
invariant_of-result c =
    let within = job_within c.args.file.now c.args.laid c.requires.laid in
    record {
      ok = record {
        formed = c.args.file.now.within.formed;
        in_range = c.args.file.now.within.in_range;
        few_boxes = within.few_boxes;
        few_characters = within.few_characters;
        reach = within.reach;
        bound = c.requires.bound;
        small_terms = c.requires.small;
      };
    }
