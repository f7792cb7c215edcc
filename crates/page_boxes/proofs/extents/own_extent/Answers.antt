use Rattle.std.proofs.Common.{◌≡◌, ◌∙◌, true, length, refl, sym}
use Rattle.std.proofs.lemmas.Option.{slice_get_past, slice_get_read}
use Rattle.viz_base.specs.Reaches.{is_of_element}
use Rattle.page_boxes.proofs.ExtentSteps.{none_of_others, none_without_font, none_without_style, own_is}
use Rattle.page_boxes.proofs.extents.own_extent.Goals as goal

pub returns-in-Some-get-clause-value : goal.returns-in-Some-get-clause-value
returns-in-Some-get-clause-value c =
    let styles = c.args.styles.now in
    let fonts = c.args.fonts.now in
    let b = c.args.inner.now in
    let s = c.in-Some.style.now in
    let font = c.in-Some-get.font.now in
    let element : is_of_element b.kind ≡ true = sym c.is_of_element.ensures ∙ c.if-not-is_of_element.false in
    c.style_extent.ensures.value ∙ own_is c.args.sizes.now styles fonts b s font element
    (slice_get_read styles (length styles) b.node s refl c.in-Some.ensures.lookup.3.0 c.in-Some.ensures.lookup.1)
    (slice_get_read fonts (length fonts) s.font font refl c.in-Some-get.ensures.lookup.3.0 c.in-Some-get.ensures.lookup.1)

pub returns-in-None-get-clause-value : goal.returns-in-None-get-clause-value
returns-in-None-get-clause-value c =
    let styles = c.args.styles.now in
    let fonts = c.args.fonts.now in
    let b = c.args.inner.now in
    let s = c.in-Some.style.now in
    let element : is_of_element b.kind ≡ true = sym c.is_of_element.ensures ∙ c.if-not-is_of_element.false in
    none_without_font c.args.sizes.now styles fonts b s element
    (slice_get_read styles (length styles) b.node s refl c.in-Some.ensures.lookup.3.0 c.in-Some.ensures.lookup.1)
    (slice_get_past fonts s.font c.in-None-get.ensures.lookup.3)

pub returns-in-None-clause-value : goal.returns-in-None-clause-value
returns-in-None-clause-value c =
    let styles = c.args.styles.now in
    let b = c.args.inner.now in
    let element : is_of_element b.kind ≡ true = sym c.is_of_element.ensures ∙ c.if-not-is_of_element.false in
    none_without_style c.args.sizes.now styles c.args.fonts.now b element (slice_get_past styles b.node c.in-None.ensures.lookup.3)

pub returns-then-not-is_of_element-clause-value : goal.returns-then-not-is_of_element-clause-value
returns-then-not-is_of_element-clause-value c =
    none_of_others c.args.sizes.now c.args.styles.now c.args.fonts.now c.args.inner.now (sym c.is_of_element.ensures ∙ c.if-not-is_of_element.true)
