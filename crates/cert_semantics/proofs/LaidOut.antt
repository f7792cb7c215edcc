-- Each world of the range lies on the path of exactly one grid or leaf.
use Rattle.std.proofs.Common.{◌≡◌, ℕ, refl, IsTrue}
use Rattle.viz_base.specs.declared.worlds.World.{World}
use Rattle.viz_base.specs.declared.worlds.Rect.{Rect}
use Rattle.viz_base.specs.Worlds.{IsInRange}
use Rattle.cert_text.specs.declared.certificate.Cert.{Cert}
use Rattle.cert_semantics.specs.Paths.{Path, variables, IsOn, AreSound}
use Rattle.cert_semantics.specs.Nodes.{Decision, names, splits, states, is_empty, by_worlds, by_answers, is_end, is_laid_out}
use Rattle.cert_semantics.specs.Derived.{AreEntailed, HasReasons, IsReasoned}
use Rattle.cert_semantics.specs.Laws.{IsLaidOutBy}
use Rattle.cert_semantics.proofs.Ends.{one_end}
use Rattle.cert_semantics.proofs.PathFacts.{refuted_is_empty}
use Rattle.cert_semantics.proofs.Sound.{shaped_is_sound, reasoned_is_entailed}

-- an end with its reasons, to which a world of the range comes, is no void
no_void : (range : Rect) (path : Path) (decision : Decision) → AreSound path → AreEntailed range path → HasReasons range path decision → (world : World) → IsInRange range world → IsOn path world
    → IsTrue (is_end decision) → IsTrue (is_laid_out decision)
no_void range path (names row d) sound entailed has world i on ends = ends
no_void range path (splits row) sound entailed has world i on ends = ends
no_void range path (states row why) sound entailed has world i on ends = ends
no_void range path (is_empty why) sound entailed has world i on ends = absurd (refuted_is_empty range path sound entailed (variables path) why has world i on)
no_void range path by_worlds sound entailed has world i on ends = ends
no_void range path (by_answers answers) sound entailed has world i on ends = ends

laid_out_ends : (decision : Decision) → IsTrue (is_laid_out decision) → IsTrue (is_end decision)
laid_out_ends (names row d) h = h
laid_out_ends (splits row) h = h
laid_out_ends (states row why) h = h
laid_out_ends (is_empty why) h = refl
laid_out_ends by_worlds h = h
laid_out_ends (by_answers answers) h = h

pub one_laid_out : (form : ℕ) (range : Rect) (cert : Cert) → IsReasoned form range cert → (world : World) → IsInRange range world
    → (n : ℕ) × (IsLaidOutBy form cert world n × ((m : ℕ) → IsLaidOutBy form cert world m → m ≡ n))
one_laid_out form range cert reasoned world i =
    let one = one_end form cert world in
    let at = one.1.0 in
    let sound = shaped_is_sound form range cert one.0 at.node at.is_node (λ k node less is. reasoned.shaped k node is) in
    let entailed = reasoned_is_entailed form range cert one.0 at.node at.is_node (λ k node less is. reasoned.reasons k node is) in (
      one.0,
      (
        record {
          node = at.node;
          is_node = at.is_node;
          laid_out = no_void range at.node.path at.node.decision sound entailed (reasoned.reasons one.0 at.node at.is_node) world i at.on_path at.ends;
          on_path = at.on_path;
        },
        λ m h. one.1.1 m (record { node = h.node; is_node = h.is_node; ends = laid_out_ends h.node.decision h.laid_out; on_path = h.on_path }),
      ),
    )
