-- One turn of a loop: what has been made so far, and the walk over the rest.
use Rattle.std.proofs.Common.{◌≡◌, ℕ, zero, suc, ◌+◌, ◌<◌, ◌≤◌, nat_lt, Bool, false, not, List, [], ◌∷◌, ◌++◌, length, get_or, drop, Option, Some, None, sym, ap, ◌∙◌, arith, append_assoc}
use Rattle.std.specs.Prelude.{if◌then◌else◌}
use Rattle.viz_base.specs.declared.fonts.Font.{Font}
use Rattle.viz_base.specs.declared.nodes.Node.{Node}
use Rattle.viz_base.specs.declared.styles.Style.{Style}
use Rattle.viz_base.specs.declared.trees.BoxNode.{BoxNode}
use Rattle.viz_base.proofs.ListLemmas.{drop_at}
use Rattle.layout_semantics.specs.Lists.{one_if}
use Rattle.layout_semantics.specs.Parts.{Part}
use Rattle.layout_semantics.specs.WhiteSpace.{is_bare}
use Rattle.page_boxes.specs.declared.nodes.Spot.{Spot}
use Rattle.page_boxes.specs.steps.Extents.{AreCapped, first_far, most, own_in, reach_of}
use Rattle.page_boxes.specs.steps.Leads.{lead_of, leads_walk}
use Rattle.page_boxes.specs.steps.Nodes.{is_shown_in, nodes_walk, part_in, spot_around, spot_in}
use Rattle.page_boxes.specs.steps.Spaces.{keeps_behind_part, spaces_walk, squeezed_part}
use Rattle.page_boxes.specs.steps.Tables.{held, put}

-- a node, with what it stands in
pub nodes_turn : (nodes : List Node) (styles : List Style) (spots more : List Spot) (parts grown : List Part) (at : ℕ) (n : Node) (s : Style) (around : Spot)
    → at < length nodes → at < length styles → n ≡ get_or nodes at n → s ≡ get_or styles at s → around ≡ spot_around spots n.parent
    → grown ≡ parts ++ one_if (is_shown_in around s) (part_in around at n s) → more ≡ spots ++ spot_in around at n s ∷ []
    → grown ++ nodes_walk more (at + 1) (drop (at + 1) nodes) (drop (at + 1) styles) ≡ parts ++ nodes_walk spots at (drop at nodes) (drop at styles)
nodes_turn nodes styles spots more parts grown at n s around l m is is_style stands g k =
    let ns = drop (at + 1) nodes in
    let ss = drop (at + 1) styles in
    ap (λ ps. ps ++ nodes_walk more (at + 1) ns ss) g
    ∙ (append_assoc parts (one_if (is_shown_in around s) (part_in around at n s)) (nodes_walk more (at + 1) ns ss)
    ∙ (ap (λ ms. parts ++ (one_if (is_shown_in around s) (part_in around at n s) ++ nodes_walk ms (at + 1) ns ss)) k
    ∙ (ap (λ a. parts ++ (one_if (is_shown_in a s) (part_in a at n s) ++ nodes_walk (spots ++ spot_in a at n s ∷ []) (at + 1) ns ss)) stands
    ∙ (ap (λ us. parts ++ nodes_walk spots at us (s ∷ ss)) (sym (drop_at nodes at n l is))
    ∙ ap (λ us. parts ++ nodes_walk spots at (drop at nodes) us) (sym (drop_at styles at s m is_style))))))

-- a box whose reach does not pass the most
pub far_turn : (sizes : List ℕ) (styles : List Style) (fonts : List Font) (total : ℕ) (reaches more : List ℕ) (boxes : List BoxNode) (at : ℕ) (b : BoxNode) (reach : ℕ)
    → at < length boxes → b ≡ get_or boxes at b → reach ≡ reach_of styles b (own_in sizes styles fonts b) (held reaches b.parent total) → nat_lt most reach ≡ false → more ≡ reaches ++ reach ∷ []
    → first_far sizes styles fonts total more (drop (at + 1) boxes) ≡ first_far sizes styles fonts total reaches (drop at boxes)
far_turn sizes styles fonts total reaches more boxes at b reach l is reaches_to few k =
    let bs = drop (at + 1) boxes in
    ap (λ rs. first_far sizes styles fonts total rs bs) k
    ∙ (ap (λ t. if t then Some b.node else first_far sizes styles fonts total (reaches ++ reach ∷ []) bs) (sym few)
    ∙ (ap (λ r. if nat_lt most r then Some b.node else first_far sizes styles fonts total (reaches ++ r ∷ []) bs) reaches_to
    ∙ ap (λ cs. first_far sizes styles fonts total reaches cs) (sym (drop_at boxes at b l is))))

pub capped_more : (reaches : List ℕ) (reach : ℕ) → AreCapped reaches → reach ≤ most + 1 → AreCapped (reaches ++ reach ∷ [])
capped_more [] reach h l zero = l
capped_more [] reach h l (suc at) = omega arith
capped_more (r ∷ reaches) reach h l zero = h zero
capped_more (r ∷ reaches) reach h l (suc at) = capped_more reaches reach (λ i. h (suc i)) l at

-- a box, with the first of those in its anonymous block box
pub leads_turn : (led changed leads more : List (Option ℕ)) (blocks ahead : List Bool) (at : ℕ) (p : Part) (ps rest : List Part) (lead : Option ℕ)
    → ps ≡ p ∷ rest → lead ≡ lead_of (held led p.parent None) (held blocks p.parent false) (get_or ahead at false) p.level p.node → changed ≡ put led p.parent lead → more ≡ leads ++ lead ∷ []
    → more ++ leads_walk changed blocks ahead (at + 1) rest ≡ leads ++ leads_walk led blocks ahead at ps
leads_turn led changed leads more blocks ahead at p ps rest lead is leads_to put_is k =
    ap (λ ls. ls ++ leads_walk changed blocks ahead (at + 1) rest) k
    ∙ (append_assoc leads (lead ∷ []) (leads_walk changed blocks ahead (at + 1) rest)
    ∙ (ap (λ t. leads ++ lead ∷ leads_walk t blocks ahead (at + 1) rest) put_is
    ∙ (ap (λ l. leads ++ l ∷ leads_walk (put led p.parent l) blocks ahead (at + 1) rest) leads_to
    ∙ ap (λ qs. leads ++ leads_walk led blocks ahead at qs) (sym is))))

-- a box with what stays of its text, unless it is a text of which nothing stays
pub spaces_turn : (table changed : List Bool) (kept more : List Part) (p left : Part) (ps rest : List Part) (before : Bool)
    → ps ≡ p ∷ rest → before ≡ held table p.container false → left ≡ squeezed_part before p → changed ≡ put table p.container (keeps_behind_part before p) → more ≡ kept ++ one_if (not (is_bare left)) left
    → more ++ spaces_walk changed rest ≡ kept ++ spaces_walk table ps
spaces_turn table changed kept more p left ps rest before is stands leaves put_is k =
    ap (λ ls. ls ++ spaces_walk changed rest) k
    ∙ (append_assoc kept (one_if (not (is_bare left)) left) (spaces_walk changed rest)
    ∙ (ap (λ t. kept ++ (one_if (not (is_bare left)) left ++ spaces_walk t rest)) put_is
    ∙ (ap (λ l. kept ++ (one_if (not (is_bare l)) l ++ spaces_walk (put table p.container (keeps_behind_part before p)) rest)) leaves
    ∙ (ap (λ b. kept ++ (one_if (not (is_bare (squeezed_part b p))) (squeezed_part b p) ++ spaces_walk (put table p.container (keeps_behind_part b p)) rest)) stands
    ∙ ap (λ qs. kept ++ spaces_walk table qs) (sym is)))))
