-- The overflow that goes to the viewport: that of the first `body` of an `html` that does not clip.
use Rattle.std.proofs.Common.{◌≡◌, ℕ, zero, suc, ◌+◌, ◌<◌, Bool, true, false, not, ◌&&◌, ◌==◌, List, [], ◌∷◌, find, IsTrue, Option, None, Some, option_map, slice_get, refl, sym, ap, ◌∙◌, arith, codes, if◌then◌else◌}
use Rattle.std.specs.List.{enumerate_from}
use Rattle.std.specs.Option.{option_map_or}
use Rattle.viz_base.specs.Pages.{is_element, is_element_at, has_tag}
use Rattle.viz_base.specs.declared.nodes.Body.{Body}
use Rattle.viz_base.specs.declared.nodes.Body.TheVariants as of_body
use Rattle.viz_base.specs.declared.nodes.Node.{Node}
use Rattle.viz_base.specs.declared.styles.Style.{Style}
use Rattle.viz_base.proofs.Truths.{same_number}
use Rattle.layout_semantics.specs.Elements.{node_passes}
use Rattle.layout_semantics.specs.WhiteSpace.{is_in}
use Rattle.layout_semantics.specs.BoxTrees.{clips_at, first_body, viewport_clip, tree_style_of, tree_styles}
use Rattle.layout_semantics.proofs.Forest.{both}
use Rattle.layout_laws.specs.Viewport.{is_body, is_body_at, IsFirstBody}
use Rattle.layout_laws.proofs.BoxFacts.{tree_style_at}

abbrev bodies : ℕ × Node → Bool
bodies e = is_body e.1

find_first : (i : ℕ) (ns : List Node) (at : ℕ) (n : Node) → slice_get ns at ≡ Some n → is_body n ≡ true → ((e : ℕ) → e < at → is_body_at ns e ≡ false)
    → option_map (λ (e : ℕ × Node). e.0) (find bodies (enumerate_from i ns)) ≡ Some (i + at)
find_first i [] at n e b f = absurd (cc)
find_first i (m ∷ ms) zero n e b f = let same : m ≡ n = cc in let here : is_body m ≡ true = ap is_body same ∙ b in let none : i ≡ i + 0 = omega arith in rw here (ap Some none)
find_first i (m ∷ ms) (suc at) n e b f =
    let here : is_body m ≡ false = f 0 (omega arith) in
    let next : (i + 1) + at ≡ i + suc at = omega arith in
    rw here (find_first (i + 1) ms at n e b (λ k l. f (suc k) (omega arith)) ∙ ap Some next)

tagged : (tag : List ℕ) (b : Body) → has_tag tag b ≡ true → is_element b ≡ true
tagged tag (of_body.Element e) t = refl
tagged tag (of_body.Chars text) t = absurd (cc)

module _ (nodes : List Node) (styles : List Style) (at : ℕ) where
  -- an element clips in the tree where its own style does and its overflow does not go to the viewport
  element-clips : (n : Node) → slice_get nodes at ≡ Some n → is_element n.body ≡ true → clips_at (tree_styles nodes styles) at ≡ (not (is_in at (viewport_clip nodes styles)) && clips_at styles at)
  element-clips n e t =
      ap (λ (o : Option Style). option_map_or (λ (s : Style). s.clips) o false) (tree_style_at nodes styles at n e) ∙ by_style (slice_get styles at)
    where
      by_style : (o : Option Style)
          → option_map_or (λ (s : Style). s.clips) (option_map (tree_style_of (viewport_clip nodes styles)) (option_map (λ (s : Style). ((at, n), s)) o)) false
          ≡ (not (is_in at (viewport_clip nodes styles)) && option_map_or (λ (s : Style). s.clips) o false)
      by_style None = sym (no_more (is_in at (viewport_clip nodes styles)))
        where
          no_more : (b : Bool) → (not b && false) ≡ false
          no_more true = refl
          no_more false = refl
      by_style (Some s) = ap (λ (b : Bool). not (is_in (if b then at else option_map_or (λ p. p) n.parent at) (viewport_clip nodes styles)) && s.clips) t

  pub body-does-not : IsTrue (node_passes (has_tag (codes "html")) nodes 0) → clips_at styles 0 ≡ false → IsFirstBody nodes at → clips_at (tree_styles nodes styles) at ≡ false
  body-does-not html visible first = by_node (slice_get nodes at) refl first.body
    where
      given : (n : Node) → slice_get nodes at ≡ Some n → is_body n ≡ true → viewport_clip nodes styles ≡ Some at
      given n e b = let none : 0 + at ≡ at = omega arith in rw (html, visible) (find_first 0 nodes at n e b first.first ∙ ap Some none)

      by_node : (o : Option Node) → slice_get nodes at ≡ o → IsTrue (option_map_or is_body o false) → clips_at (tree_styles nodes styles) at ≡ false
      by_node None e t = absurd (cc)
      by_node (Some n) e t =
          element-clips n e (tagged (codes "body") n.body (both (option_map_or (λ p. p == 0) n.parent false) (has_tag (codes "body") n.body) t).1)
          ∙ (ap (λ (o : Option ℕ). not (is_in at o) && clips_at styles at) (given n e t) ∙ ap (λ (b : Bool). not b && clips_at styles at) (same_number at))

  pub others-do : IsTrue (is_element_at nodes at) → clips_at styles 0 ≡ true → clips_at (tree_styles nodes styles) at ≡ clips_at styles at
  others-do element clips = by_node (slice_get nodes at) refl element
    where
      no_html : (b : Bool) → (b && not true) ≡ false
      no_html true = refl
      no_html false = refl

      none : viewport_clip nodes styles ≡ None
      none = ap (λ (b : Bool). if b then first_body nodes else None) (ap (λ (c : Bool). node_passes (has_tag (codes "html")) nodes 0 && not c) clips ∙ no_html (node_passes (has_tag (codes "html")) nodes 0))

      by_node : (o : Option Node) → slice_get nodes at ≡ o → IsTrue (option_map_or (λ (n : Node). is_element n.body) o false) → clips_at (tree_styles nodes styles) at ≡ clips_at styles at
      by_node None e t = absurd (cc)
      by_node (Some n) e t = element-clips n e t ∙ ap (λ (o : Option ℕ). not (is_in at o) && clips_at styles at) none
