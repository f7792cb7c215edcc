-- What a job keeps of its limits.
use Rattle.std.proofs.Common.{◌≡◌, ℕ, ◌≤◌, true, leb}
use Rattle.std.specs.Prelude.{◌&&◌}
use Rattle.std.proofs.lemmas.Bool.{and_parts, leb-true}
use Rattle.viz_base.specs.Jobs.{IsFormed, IsRange}
use Rattle.viz_base.specs.Worlds.{world_count}
use Rattle.page_json.specs.Jobs.{Parts, are_ends, are_ranges, in_range, rect_of}
use Rattle.page_json.specs.Seen.{IsFormOf}

record AreEnds (limit : ℕ) (ends : ℕ × ℕ) : Type 0 where
  least : 1 ≤ ends.0
  up : ends.0 ≤ ends.1
  most : ends.1 ≤ limit

ends-good : (most : ℕ) (ends : ℕ × ℕ) → are_ends most ends ≡ true → AreEnds most ends
ends-good most ends e =
    let a = and_parts (leb 1 ends.0) (leb ends.0 ends.1 && leb ends.1 most) e in
    let b = and_parts (leb ends.0 ends.1) (leb ends.1 most) a.1 in
    record { least = leb-true 1 ends.0 a.0; up = leb-true ends.0 ends.1 b.0; most = leb-true ends.1 most b.1 }

-- what is in range
pub in_range-good : (p : Parts) → in_range p ≡ true → IsRange (rect_of p)
in_range-good p e =
    let all = and_parts (are_ranges p) (leb (world_count (rect_of p)) 4194304) e in
    let a = and_parts (are_ends 16384 p.widths) (are_ends 256 p.sizes && are_ends 16384 p.heights) all.0 in
    let b = and_parts (are_ends 256 p.sizes) (are_ends 16384 p.heights) a.1 in
    let w = ends-good 16384 p.widths a.0 in
    let s = ends-good 256 p.sizes b.0 in
    let h = ends-good 16384 p.heights b.1 in
    record {
      width_least = w.least;
      widths = w.up;
      width_most = w.most;
      size_least = s.least;
      sizes = s.up;
      size_most = s.most;
      height_least = h.least;
      heights = h.up;
      height_most = h.most;
      worlds = leb-true (world_count (rect_of p)) 4194304 all.1;
    }

pub formed-good : (p : Parts) → IsFormOf p.form p.heights → IsFormed p.form (rect_of p)
formed-good p f = record { least = f.least; most = f.most; one_height = f.one_height }
