-- Rulesets and the statements of a sheet have exactly one reading.
use Rattle.std.proofs.Common.{◌≡◌, ℕ, Bool, true, false, cond, List, [], ◌∷◌, map, Option, Some, None, option_map, refl, sym, ◌∙◌, ap, subst, codes}
use Rattle.std.specs.Option.{option_to_list}
use Rattle.css_semantics.specs.Pieces.{Token}
use Rattle.viz_base.specs.declared.sheets.MediaEntry.{MediaEntry}
use Rattle.viz_base.specs.declared.sheets.Rule.{Rule}
use Rattle.viz_base.proofs.Truths.{by_bool}
use Rattle.css_semantics.specs.declared.statements.Statement.{Statement}
use Rattle.css_semantics.specs.declared.statements.Statement.TheVariants.{Ruleset, Import, Page, MediaQuery, Media}
use Rattle.css_semantics.specs.SheetsMarks.{is_at_keyword, is_gap, is_space, is_word, ends_prelude, ends_selector, ends_block}
use Rattle.css_semantics.specs.SheetsReading.{start_of, extent, trimmed, is_between}
use Rattle.css_semantics.specs.SheetsStretches.{IsStretch}
use Rattle.css_semantics.specs.MediaLists.{shown_entry}
use Rattle.css_semantics.specs.steps.Stretches.{front, behind}
use Rattle.css_semantics.specs.steps.MediaLists.{entries}
use Rattle.css_semantics.specs.steps.Sheets.{rule_of, ruleset_of, block_rule, after_selector, after_ruleset, rule_item, after_rule, rules_in, media_of, at_rule, statement_item, after_statement, statements, in_block, after_at_rule}
use Rattle.css_semantics.specs.SheetsGrammar.{RulesetAt, ruleset_with, unfinished, RuleItem, blank_rule, dropped_at_rule, kept_rule, AreRules, is_beyond, AtStatement, an_import, a_page, a_query, a_media, unknown, StatementItem, between, at_statement, rule_statement, AreStatements}
use Rattle.css_semantics.proofs.Stretches.{is_stretch, stretch_front, stretch_behind}
use Rattle.css_semantics.proofs.Items.{Takes, TakesOnly, listed, listed_only, is_block, block_front, block_after, is_at_rule, at_rule_prelude, at_rule_block, at_rule_after}
use Rattle.css_semantics.proofs.Declarations.{are_declarations, declarations_are}
use Rattle.css_semantics.proofs.MediaLists.{is_media_list, media_list_is}
use Rattle.css_semantics.proofs.Tails.{rule_tails, statement_tails}

-- ---- rulesets

ruleset_at : (media : Option (List MediaEntry)) (ts r : List Token) → IsStretch ends_selector ts (front ends_selector ts) r → RulesetAt media ts (option_to_list (ruleset_of media (front ends_selector ts) r)) (after_selector r)
ruleset_at media ts [] h = unfinished h
ruleset_at media ts (brace ∷ after) h = ruleset_with h (is_block after) (are_declarations (front ends_block after)) refl

is_ruleset : (media : Option (List MediaEntry)) (ts : List Token) → RulesetAt media ts (option_to_list (block_rule media ts)) (after_ruleset ts)
is_ruleset media ts = ruleset_at media ts (behind ends_selector ts) (is_stretch ends_selector ts)

ruleset_is : {media : Option (List MediaEntry)} {ts : List Token} {rules : List Rule} {rest : List Token} → RulesetAt media ts rules rest → (rules ≡ option_to_list (block_rule media ts)) × (rest ≡ after_ruleset ts)
ruleset_is {media} (ruleset_with {ts = ts} {selector = selector} {after = after} {block = block} {rest = rest} {brace = brace} {decls = decls} {rule = rule} h b d e) =
    let f = stretch_front ends_selector ts selector (brace ∷ after) h in
    let g = stretch_behind ends_selector ts selector (brace ∷ after) h in
    let made : rule ≡ rule_of media (trimmed is_space selector) brace.at (front ends_block after) =
    e ∙ ap (λ x. record { at = start_of brace.at (trimmed is_space selector); len = extent (trimmed is_space selector); decls = x; media = media }) (declarations_are d)
    ∙ ap (λ x. rule_of media (trimmed is_space selector) brace.at x) (block_front after block rest b) in (
      ap (λ x. x ∷ []) made ∙ ap (λ x. option_to_list (ruleset_of media x (brace ∷ after))) f ∙ ap (λ x. option_to_list (ruleset_of media (front ends_selector ts) x)) g,
      block_after after block rest b ∙ ap after_selector g,
    )
ruleset_is {media} (unfinished {ts = ts} {selector = selector} h) =
    let g = stretch_behind ends_selector ts selector [] h in
    (ap (λ x. option_to_list (ruleset_of media (front ends_selector ts) x)) g, ap after_selector g)

module _ (media : Option (List MediaEntry)) where
  rule_is : (t : Token) (ts : List Token) (b a : Bool) → is_gap t.kind ≡ b → is_at_keyword t.kind ≡ a → rule_item media t ts ≡ cond b [] (cond a [] (option_to_list (block_rule media (t ∷ ts))))
  rule_is t ts b a e f = ap (λ x. cond x [] (cond (is_at_keyword t.kind) [] (option_to_list (block_rule media (t ∷ ts))))) e ∙ ap (λ x. cond b [] (cond x [] (option_to_list (block_rule media (t ∷ ts))))) f

  after_rule_is : (t : Token) (ts : List Token) (b a : Bool) → is_gap t.kind ≡ b → is_at_keyword t.kind ≡ a → after_rule t ts ≡ cond b ts (cond a (after_at_rule ts) (after_ruleset (t ∷ ts)))
  after_rule_is t ts b a e f = ap (λ x. cond x ts (cond (is_at_keyword t.kind) (after_at_rule ts) (after_ruleset (t ∷ ts)))) e ∙ ap (λ x. cond b ts (cond x (after_at_rule ts) (after_ruleset (t ∷ ts)))) f

  rule_from : (t : Token) (ts : List Token) (xs : List Rule) (rest : List Token) → RuleItem media (t ∷ ts) xs rest → rule_item media t ts ≡ xs → after_rule t ts ≡ rest → RuleItem media (t ∷ ts) (rule_item media t ts) (after_rule t ts)
  rule_from t ts xs rest h e f = subst (λ x. RuleItem media (t ∷ ts) x (after_rule t ts)) (sym e) (subst (λ x. RuleItem media (t ∷ ts) xs x) (sym f) h)

  rule_takes : Takes (RuleItem media) (rule_item media) after_rule
  rule_takes t ts =
      by_bool (is_gap t.kind)
      (λ e. rule_from t ts _ _ (blank_rule e) (rule_is t ts true _ e refl) (after_rule_is t ts true _ e refl))
      (λ e. by_bool (is_at_keyword t.kind)
      (λ f. rule_from t ts _ _ (dropped_at_rule e f (is_at_rule ts)) (rule_is t ts false true e f) (after_rule_is t ts false true e f))
      (λ f. rule_from t ts _ _ (kept_rule e f (is_ruleset media (t ∷ ts))) (rule_is t ts false false e f) (after_rule_is t ts false false e f)))

  rule_only : TakesOnly (RuleItem media) (rule_item media) after_rule
  rule_only t ts xs rest (blank_rule e) = (sym (rule_is t ts true _ e refl), sym (after_rule_is t ts true _ e refl))
  rule_only t ts xs rest (dropped_at_rule {prelude = prelude} {block = block} e f h) =
      (sym (rule_is t ts false true e f), at_rule_after ts prelude block rest h ∙ sym (after_rule_is t ts false true e f))
  rule_only t ts xs rest (kept_rule e f h) =
      ((ruleset_is h).0 ∙ sym (rule_is t ts false false e f), (ruleset_is h).1 ∙ sym (after_rule_is t ts false false e f))

  are_rules : (ts : List Token) → AreRules media ts (rules_in media ts)
  are_rules ts = listed (RuleItem media) (rule_item media) after_rule rule_tails rule_takes ts

  rules_are_read : {ts : List Token} {rules : List Rule} → AreRules media ts rules → rules ≡ rules_in media ts
  rules_are_read h = listed_only (RuleItem media) (rule_item media) after_rule rule_tails rule_only h

-- ---- at-rules

abbrev said_by : Bool → Bool → Bool → Token → List Token → Option Statement
said_by i p m t ts = cond i (Some (Import t.at)) (cond p (Some Page) (cond m (Some (media_of t.at (front ends_prelude ts) (in_block (behind ends_prelude ts)))) None))

at_is : (t : Token) (ts : List Token) (i p m : Bool) → is_word (codes "import") t ≡ i → is_word (codes "page") t ≡ p → is_word (codes "media") t ≡ m → at_rule t ts ≡ said_by i p m t ts
at_is t ts i p m e f g =
    ap (λ x. said_by x (is_word (codes "page") t) (is_word (codes "media") t) t ts) e ∙ ap (λ x. said_by i x (is_word (codes "media") t) t ts) f ∙ ap (λ x. said_by i p x t ts) g

abbrev rules_under : List (Option MediaEntry) → List Token → List Rule
rules_under es block = rules_in (Some (map shown_entry es)) block

abbrev media_by : Bool → ℕ → List (Option MediaEntry) → List Token → Statement
media_by q place es block = cond q (MediaQuery place) (Media (rules_under es block))

media_is : (place : ℕ) (prelude block : List Token) (q : Bool) → is_beyond prelude (entries prelude) ≡ q → media_of place prelude block ≡ media_by q place (entries prelude) block
media_is place prelude block q e = ap (λ x. media_by x place (entries prelude) block) e

abbrev Said : Token → List Token → List Statement → Type 0
Said t ts said = AtStatement t (front ends_prelude ts) (in_block (behind ends_prelude ts)) said

said_from : (t : Token) (ts : List Token) (o : Option Statement) → Said t ts (option_to_list o) → at_rule t ts ≡ o → Said t ts (option_to_list (at_rule t ts))
said_from t ts o h e = subst (λ x. Said t ts (option_to_list x)) (sym e) h

media_said : (t : Token) (ts : List Token) → is_word (codes "import") t ≡ false → is_word (codes "page") t ≡ false → is_word (codes "media") t ≡ true → Said t ts (media_of t.at (front ends_prelude ts) (in_block (behind ends_prelude ts)) ∷ [])
media_said t ts e f g =
    let prelude = front ends_prelude ts in
    let block = in_block (behind ends_prelude ts) in
    by_bool (is_beyond prelude (entries prelude))
    (λ q. subst (λ x. Said t ts (x ∷ [])) (sym (media_is t.at prelude block true q)) (a_query e f g (is_media_list prelude) q))
    (λ q. subst (λ x. Said t ts (x ∷ [])) (sym (media_is t.at prelude block false q)) (a_media e f g (is_media_list prelude) q (are_rules (Some (map shown_entry (entries prelude))) block)))

at_said : (t : Token) (ts : List Token) → Said t ts (option_to_list (at_rule t ts))
at_said t ts =
    by_bool (is_word (codes "import") t)
    (λ e. said_from t ts (Some (Import t.at)) (an_import e) (at_is t ts true _ _ e refl refl))
    (λ e. by_bool (is_word (codes "page") t)
    (λ f. said_from t ts (Some Page) (a_page e f) (at_is t ts false true _ e f refl))
    (λ f. by_bool (is_word (codes "media") t)
    (λ g. said_from t ts _ (media_said t ts e f g) (at_is t ts false false true e f g))
    (λ g. said_from t ts None (unknown e f g) (at_is t ts false false false e f g))))

said_is : (t : Token) (ts : List Token) (said : List Statement) → Said t ts said → said ≡ option_to_list (at_rule t ts)
said_is t ts said (an_import e) = sym (ap option_to_list (at_is t ts true _ _ e refl refl))
said_is t ts said (a_page e f) = sym (ap option_to_list (at_is t ts false true _ e f refl))
said_is t ts said (a_query e f g l q) =
    let prelude = front ends_prelude ts in
    sym (ap option_to_list (at_is t ts false false true e f g) ∙ ap (λ x. x ∷ []) (media_is t.at prelude (in_block (behind ends_prelude ts)) true (ap (is_beyond prelude) (sym (media_list_is l)) ∙ q)))
said_is t ts said (a_media {entries = es} {rules = rules} e f g l q r) =
    let prelude = front ends_prelude ts in
    let block = in_block (behind ends_prelude ts) in
    ap (λ x. Media x ∷ []) (rules_are_read (Some (map shown_entry es)) r ∙ ap (λ x. rules_under x block) (media_list_is l))
    ∙ sym (ap option_to_list (at_is t ts false false true e f g) ∙ ap (λ x. x ∷ []) (media_is t.at prelude block false (ap (is_beyond prelude) (sym (media_list_is l)) ∙ q)))
said_is t ts said (unknown e f g) = sym (ap option_to_list (at_is t ts false false false e f g))

-- ---- statements

rulesets : (o : Option Rule) → map Ruleset (option_to_list o) ≡ option_to_list (option_map Ruleset o)
rulesets None = refl
rulesets (Some rule) = refl

abbrev stated_by : Bool → Bool → Token → List Token → List Statement
stated_by b a t ts = cond b [] (cond a (option_to_list (at_rule t ts)) (option_to_list (option_map Ruleset (block_rule None (t ∷ ts)))))

statement_is : (t : Token) (ts : List Token) (b a : Bool) → is_between t.kind ≡ b → is_at_keyword t.kind ≡ a → statement_item t ts ≡ stated_by b a t ts
statement_is t ts b a e f = ap (λ x. stated_by x (is_at_keyword t.kind) t ts) e ∙ ap (λ x. stated_by b x t ts) f

after_statement_is : (t : Token) (ts : List Token) (b a : Bool) → is_between t.kind ≡ b → is_at_keyword t.kind ≡ a → after_statement t ts ≡ cond b ts (cond a (after_at_rule ts) (after_ruleset (t ∷ ts)))
after_statement_is t ts b a e f = ap (λ x. cond x ts (cond (is_at_keyword t.kind) (after_at_rule ts) (after_ruleset (t ∷ ts)))) e ∙ ap (λ x. cond b ts (cond x (after_at_rule ts) (after_ruleset (t ∷ ts)))) f

statement_from : (t : Token) (ts : List Token) (xs : List Statement) (rest : List Token) → StatementItem (t ∷ ts) xs rest → statement_item t ts ≡ xs → after_statement t ts ≡ rest → StatementItem (t ∷ ts) (statement_item t ts) (after_statement t ts)
statement_from t ts xs rest h e f = subst (λ x. StatementItem (t ∷ ts) x (after_statement t ts)) (sym e) (subst (λ x. StatementItem (t ∷ ts) xs x) (sym f) h)

statement_takes : Takes StatementItem statement_item after_statement
statement_takes t ts =
    by_bool (is_between t.kind)
    (λ e. statement_from t ts _ _ (between e) (statement_is t ts true _ e refl) (after_statement_is t ts true _ e refl))
    (λ e. by_bool (is_at_keyword t.kind)
    (λ f. statement_from t ts _ _ (at_statement e f (is_at_rule ts) (at_said t ts)) (statement_is t ts false true e f) (after_statement_is t ts false true e f))
    (λ f. statement_from t ts _ _ (rule_statement e f (is_ruleset None (t ∷ ts))) (statement_is t ts false false e f ∙ sym (rulesets (block_rule None (t ∷ ts)))) (after_statement_is t ts false false e f)))

statement_only : TakesOnly StatementItem statement_item after_statement
statement_only t ts xs rest (between e) = (sym (statement_is t ts true _ e refl), sym (after_statement_is t ts true _ e refl))
statement_only t ts xs rest (at_statement {prelude = prelude} {block = block} e f h k) = (
  said_is t ts xs (subst (λ x. AtStatement t x (in_block (behind ends_prelude ts)) xs) (at_rule_prelude ts prelude block rest h) (subst (λ x. AtStatement t prelude x xs) (at_rule_block ts prelude block rest h) k))
      ∙ sym (statement_is t ts false true e f),
  at_rule_after ts prelude block rest h ∙ sym (after_statement_is t ts false true e f),
)
statement_only t ts xs rest (rule_statement {rules = rules} e f h) = (
  ap (map Ruleset) (ruleset_is h).0 ∙ rulesets (block_rule None (t ∷ ts)) ∙ sym (statement_is t ts false false e f),
  (ruleset_is h).1 ∙ sym (after_statement_is t ts false false e f),
)

pub are_statements : (ts : List Token) → AreStatements ts (statements ts)
are_statements ts = listed StatementItem statement_item after_statement statement_tails statement_takes ts

pub statements_are : {ts : List Token} {ss : List Statement} → AreStatements ts ss → ss ≡ statements ts
statements_are h = listed_only StatementItem statement_item after_statement statement_tails statement_only h
