-- What a rule adds to a table.
use Rattle.std.proofs.Common.{◌≡◌, ◌≢◌, ◌∙◌, ℕ, ◌+◌, ◌<◌, ◌||◌, Bool, List, [], ◌∷◌, ◌++◌, length, take, drop, get_or, sym, ap, subst, inr, arith, Option, Some, None, Result, Ok, Err}
use Rattle.std.proofs.lemmas.List.{take_more, drop_more, take-append-drop, length-take-le}
use Rattle.std.specs.Prelude.{IfOk, MatchOption}
use Rattle.std.specs.List.{flat_map}
use Rattle.page_build.specs.declared.faults.JobRefusal.{JobRefusal}
use Rattle.page_build.specs.declared.faults.JobRefusal.TheVariants as JobRefusals
use Rattle.page_build.specs.Jobs.{AreRefusedWith}
use Rattle.viz_base.specs.declared.memory.Mem.{Mem}
use Rattle.viz_tables.specs.declared.rules.Rule.{Rule}
use Rattle.viz_tables.specs.declared.table.Table.{Table}
use Rattle.viz_tables.specs.declared.table.TableAnswer.{TableAnswer}
use Rattle.viz_tables.specs.Lines.{line_text}
use Rattle.viz_tables.specs.Tables.{AreTaken, IsPushed, IsRefusedAt, IsTable, IsTableReply, IsTakenWith, refused_answer, refused_line}

module _ (bytes : List ℕ) (turns : ℕ) (rules : List Rule) (at : ℕ) (rule : Rule) (old : List ℕ) (undecided : Bool) (within : at < length rules) (is : rule ≡ get_or rules at rule)
    (table : IsTable bytes turns (take at rules) old undecided)
  where
    pub table_more : (new : List ℕ) (here : Bool) → IsPushed bytes turns rule old new here → IsTable bytes turns (take (at + 1) rules) new (undecided || here)
    table_more new here h =
        let rules_are : take at rules ++ rule ∷ [] ≡ take (at + 1) rules = ap (λ r. take at rules ++ r ∷ []) is ∙ sym (take_more rules at rule within) in
        subst (λ rs. IsTable bytes turns rs new (undecided || here)) rules_are
        (subst (λ text. IsTable bytes turns (take at rules ++ rule ∷ []) text (undecided || here)) (sym h.text)
        (subst (λ b. IsTable bytes turns (take at rules ++ rule ∷ []) (old ++ flat_map (line_text rule.name) h.lines) (undecided || b)) (sym h.open_is) (IsTable.more rule h.lines table h.survey)))

-- rules that have surveys are taken
pub surveyed_are_taken : {bytes : List ℕ} {turns : ℕ} {rules : List Rule} {text : List ℕ} {undecided : Bool} → IsTable bytes turns rules text undecided → AreTaken bytes rules
surveyed_are_taken IsTable.nothing = AreTaken.nothing
surveyed_are_taken (IsTable.more rule lines table survey) = AreTaken.more rule (surveyed_are_taken table) (survey.jobs, survey.spelled)

module _ (bytes : List ℕ) (rules : List Rule) (at : ℕ) (rule : Rule) (within : at < length rules) (is : rule ≡ get_or rules at rule) (taken : AreTaken bytes (take at rules)) where
  pub taken_more : IsTakenWith rule.formula bytes → AreTaken bytes (take (at + 1) rules)
  taken_more h = subst (AreTaken bytes) (ap (λ r. take at rules ++ r ∷ []) is ∙ sym (take_more rules at rule within)) (AreTaken.more rule taken h)

  refused_here : (why : JobRefusal) (answer : TableAnswer) (output : List ℕ) → AreRefusedWith rule.formula bytes why → answer ≡ refused_answer why → output ≡ refused_line at why
      → IsRefusedAt bytes rules answer output
  refused_here why answer output refused ends text = record {
    before = take at rules;
    rule = rule;
    behind = drop (at + 1) rules;
    whole = sym (take-append-drop at rules) ∙ (ap (λ rs. take at rules ++ rs) (drop_more rules at rule within) ∙ ap (λ r. take at rules ++ r ∷ drop (at + 1) rules) (sym is));
    taken = taken;
    why = why;
    refused = refused;
    answer_is = ends;
    line = text ∙ ap (λ n. refused_line n why) (sym (count_before rules at within));
  }
    where
      count_before : (rs : List Rule) (n : ℕ) → n < length rs → length (take n rs) ≡ n
      count_before rs n less = length-take-le n rs (omega (arith, less))

  pub refused_reply : (why : JobRefusal) (r : Result Table Mem) → (why ≢ JobRefusals.Mem → AreRefusedWith rule.formula bytes why)
      → IfOk r (λ t. (why ≢ JobRefusals.Mem) × (t.answer ≡ refused_answer why) × (t.output.items ≡ refused_line at why)) → IfOk r (λ t. IsRefusedAt bytes rules t.answer t.output.items)
  refused_reply why (Ok t) refused h = refused_here why t.answer t.output.items (refused h.0) h.1 h.2
  refused_reply why (Err fault) refused h = tt

module _ (bytes : List ℕ) (rules : List Rule) (at : ℕ) (rule : Rule) (within : at < length rules) (is : rule ≡ get_or rules at rule) (taken : AreTaken bytes (take at rules)) where
  -- the first rule that is refused, as the one that there is
  pub refused_rule : (why : JobRefusal) (r : Result (Option Table) Mem) → (why ≢ JobRefusals.Mem → AreRefusedWith rule.formula bytes why)
      → IfOk r (λ o. MatchOption o ⊥ (λ (t : Table). (why ≢ JobRefusals.Mem) × (t.answer ≡ refused_answer why) × (t.output.items ≡ refused_line at why)))
      → IfOk r (λ o. MatchOption o (AreTaken bytes rules) (λ (t : Table). IsRefusedAt bytes rules t.answer t.output.items))
  refused_rule why (Ok (Some t)) refused h = refused_reply bytes rules at rule within is taken why (Ok t) refused h
  refused_rule why (Ok None) refused h = absurd h
  refused_rule why (Err fault) refused h = tt

-- a rule that is refused is a reply
pub refused_table : (bytes : List ℕ) (rules : List Rule) (turns : ℕ) (r : Result Table Mem) → IfOk r (λ t. IsRefusedAt bytes rules t.answer t.output.items) → IfOk r (λ t. IsTableReply bytes rules turns t.answer t.output.items)
refused_table bytes rules turns (Ok t) h = inr h
refused_table bytes rules turns (Err fault) h = tt
