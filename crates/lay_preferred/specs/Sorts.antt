-- What decides the preferred widths of a box, as the code has it.
use Rattle.layout_semantics.specs.Preferred.{Inside, a_replaced, inline_content, blocks}
use Rattle.lay_preferred.specs.declared.inlines.Sort.{Sort}
use Rattle.lay_preferred.specs.declared.inlines.Sort.TheVariants as of_sort

abbrev pub inside_by : Sort → Inside
inside_by of_sort.Replaced = a_replaced
inside_by of_sort.Inline = inline_content
inside_by of_sort.Blocks = blocks
