use Rattle.std.proofs.Common.{◌≡◌, ℕ, List, true, take}
use Rattle.std.specs.List.{list_any}
use Rattle.std.specs.Prelude.{bytes_eq}
use Rattle.std.specs.HashSet.{contains_by}
use denote.Ref.{Bor}
use Rattle.page_json.specs.Elements.{has_name, have_own_names}
use Rattle.page_json.proofs.elements.have_own_names.Given as goal

abbrev pub invariant-loop-attr : goal.invariant-loop-attr
invariant-loop-attr l = record {
  own : have_own_names (take l.attr-index l.attrs) ≡ true;
  names : (q : Bor (List ℕ)) → contains_by (λ k. bytes_eq q.now k.now) l.names ≡ list_any (has_name q.now) (take l.attr-index l.attrs);
}
