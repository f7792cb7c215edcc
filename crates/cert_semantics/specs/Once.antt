-- That the lemmas of a path are entailed is so in one way.
use lib.Dec.{T_prop}
use Rattle.viz_base.specs.declared.worlds.Rect.{Rect}
use Rattle.cert_semantics.specs.Paths.{def, first, second, lemma, Path, root, ◌▸◌}
use Rattle.cert_semantics.specs.Derived.{AreEntailed}

pub entailed_once : (range : Rect) (path : Path) → IsProp (AreEntailed range path)
entailed_once range (root form) = hlevel
entailed_once range (def row d ▸ outer) = entailed_once range outer
entailed_once range (first row ▸ outer) = entailed_once range outer
entailed_once range (second row ▸ outer) = entailed_once range outer
entailed_once range (lemma row ▸ outer) = hlevel (T_prop, entailed_once range outer)
