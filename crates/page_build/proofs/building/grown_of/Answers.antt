use Rattle.std.proofs.Common.{◌≡◌, ◌+◌, ◌∷◌, ◌∙◌, ap, length, arith}
use Rattle.css_semantics.specs.DefaultSheet.{default_text}
use Rattle.page_build.proofs.building.grown_of.Goals as goal

pub grown_under-requires : goal.grown_under-requires
grown_under-requires c =
    let texts : length c.as_slice-2.result.now ≡ length c.args.raw.now.css + 1 =
    ap length (c.as_slice-2.ensures.value ∙ (c.in_ok-texts.ensures ∙ ap (λ css. default_text ∷ css) c.as_slice.ensures)) ∙ omega arith in
    let sheets = c.requires in
    omega (arith, texts, sheets)
