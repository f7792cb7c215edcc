use Rattle.lay_tree.specs.declared.placings.Placing.{Placing as Way}
use Rattle.lay_tree.specs.declared.placings.Placing.TheVariants as way
use Rattle.layout_semantics.specs.Horizontal.{Placing, block_flow, shrunk, replaced_block, replaced_shrunk}

-- how the terms of a box come about, as the code says it
abbrev pub placing : Way → Placing
placing way.Block = block_flow
placing way.Shrunk = shrunk
placing way.ReplacedBlock = replaced_block
placing way.ReplacedShrunk = replaced_shrunk
