-- What the boxes of the code stand for in the definition of the box tree.
use Rattle.std.specs.Prelude.{List, map}
use Rattle.layout_semantics.specs.Parts.{Part, Level}
use Rattle.page_boxes.specs.declared.parts.Level.{Level as CodeLevel}
use Rattle.page_boxes.specs.declared.parts.Level.TheVariants as of_level
use Rattle.page_boxes.specs.declared.parts.Part.{Part as CodePart}

abbrev pub level_seen : CodeLevel → Level
level_seen of_level.Block = Level.block
level_seen of_level.Floated = Level.floated
level_seen of_level.Inline = Level.inline

abbrev pub seen : CodePart → Part
seen p = record {
  node = p.node;
  parent = p.parent;
  container = p.container;
  kind = p.kind;
  level = level_seen p.level;
  text = p.text;
  size = p.size;
  context = p.context;
}

abbrev pub all_seen : List CodePart → List Part
all_seen = map seen
