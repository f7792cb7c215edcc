-- Where only forced breaks part: there lines may break, and the thing before is a forced break.
use Rattle.std.proofs.Common.{◌≡◌, false, List, Option, Some, None, refl, sym}
use Rattle.std.specs.Prelude.{◌&&◌, find}
use Rattle.std.specs.Option.{option_map_or}
use Rattle.std.proofs.Math.Bool.{and-true, and-false}
use Rattle.viz_base.specs.declared.trees.BoxTree.{BoxTree}
use Rattle.layout_semantics.specs.InlineContent.{Item, start, finish, word, space, atomic, forced, float}
use Rattle.layout_semantics.specs.Segments.{is_break, may_part, never, is_thing, is_forced}

module _ (tree : BoxTree) (back after : List Item) where
  pub never-same : is_break never back after ≡ (is_break (may_part tree) back after && option_map_or is_forced (find is_thing back) false)
  never-same = by (find is_thing back) (find is_thing after) refl refl
    where
      by : (thing next : Option Item) → find is_thing back ≡ thing → find is_thing after ≡ next
          → is_break never back after ≡ (is_break (may_part tree) back after && option_map_or is_forced (find is_thing back) false)
      by None next e n = rw e refl
      by (Some (forced at)) next e n = rw e (sym (and-true _))
      by (Some (start at)) None e n = rw (e, n) refl
      by (Some (finish at)) None e n = rw (e, n) refl
      by (Some (word at text)) None e n = rw (e, n) refl
      by (Some (space at)) None e n = rw (e, n) refl
      by (Some (atomic at)) None e n = rw (e, n) refl
      by (Some (float at)) None e n = rw (e, n) refl
      by (Some (start at)) (Some next) e n = rw (e, n) (sym (and-false _))
      by (Some (finish at)) (Some next) e n = rw (e, n) (sym (and-false _))
      by (Some (word at text)) (Some next) e n = rw (e, n) (sym (and-false _))
      by (Some (space at)) (Some next) e n = rw (e, n) (sym (and-false _))
      by (Some (atomic at)) (Some next) e n = rw (e, n) (sym (and-false _))
      by (Some (float at)) (Some next) e n = rw (e, n) (sym (and-false _))
