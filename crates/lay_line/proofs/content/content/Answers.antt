use Rattle.std.proofs.Common.{◌≡◌, arith}
use Rattle.layout_semantics.specs.InlineContent.{content}
use Rattle.lay_line.specs.Items.{summed_of}
use Rattle.lay_line.specs.steps.Content.{with_sums}
use Rattle.lay_line.proofs.Contents.{sums-bare, sums-kept}
use Rattle.lay_line.proofs.content.content.Goals as goal

pub returns-clause-value : goal.returns-clause-value
returns-clause-value c =
    let all : summed_of c.add_content.new.items.items ≡ with_sums c.args.tree.now (content c.args.tree.now c.args.at) = grind arith in
    sums-bare c.args.tree.now _ (content c.args.tree.now c.args.at) all

pub returns-clause-kept : goal.returns-clause-kept
returns-clause-kept c =
    let all : summed_of c.add_content.new.items.items ≡ with_sums c.args.tree.now (content c.args.tree.now c.args.at) = grind arith in
    sums-kept c.args.tree.now _ (content c.args.tree.now c.args.at) all
