-- The line of a refusal, put together from its words and what stands behind them.
use Rattle.std.proofs.Common.{◌≡◌, ◌≢◌, ◌∙◌, ℕ, List, ◌++◌, codes, refl, ap, append_assoc, rules}
use Rattle.css_semantics.specs.Properties.{row}
use Rattle.page_build.specs.declared.faults.JobRefusal.{JobRefusal}
use Rattle.page_build.specs.declared.faults.JobRefusal.TheVariants.{Mem, NotJson, Shape, Limit, Range, Import, MediaQuery, TooManyRules, TooManyQueries, TooManyParts, Selector, Value, Generated, BlockInInline, RightToLeft, TooManyBoxes, Reach, Bad, Unbound, TooDeep}
use Rattle.viz_replies.specs.Lines.{spaced}
use Rattle.viz_replies.specs.Jobs.{refusal_line}
use Rattle.viz_replies.specs.steps.Refusals.{refusal_words, refusal_places}

value_parts : (node name value : List ℕ) → (node ++ ((codes " " ++ name) ++ (codes " " ++ value))) ++ codes "\n" ≡ node ++ (codes " " ++ (name ++ (codes " " ++ (value ++ codes "\n"))))
value_parts node name value =
    append_assoc node ((codes " " ++ name) ++ (codes " " ++ value)) (codes "\n")
    ∙ ap (λ x. node ++ x) (append_assoc (codes " " ++ name) (codes " " ++ value) (codes "\n"))

pub refusal_parts : (r : JobRefusal) → r ≢ Mem → refusal_words r ++ (refusal_places r ++ codes "\n") ≡ refusal_line r
refusal_parts Mem other = absurd (other refl)
refusal_parts NotJson other = refl
refusal_parts (Shape p place) other = search rules
refusal_parts (Limit w count) other = search rules
refusal_parts Range other = refl
refusal_parts (Import sheet place) other = search rules
refusal_parts (MediaQuery sheet place) other = search rules
refusal_parts (TooManyRules sheet) other = search rules
refusal_parts (TooManyQueries sheet place) other = search rules
refusal_parts (TooManyParts count) other = search rules
refusal_parts (Selector sheet place) other = search rules
refusal_parts (Value node prop value) other = ap (λ x. codes "job-refused unsupported-value" ++ x) (value_parts (spaced node) (row prop).name value)
refusal_parts (Generated node) other = search rules
refusal_parts (BlockInInline node) other = search rules
refusal_parts (RightToLeft node letter) other = search rules
refusal_parts TooManyBoxes other = refl
refusal_parts (Reach node) other = search rules
refusal_parts (Bad place) other = search rules
refusal_parts (Unbound place) other = search rules
refusal_parts (TooDeep place) other = search rules
