use Rattle.std.proofs.Common.{◌<◌, ◌∙◌, ◌++◌, ◌∷◌, [], set, refl, sym, ap, subst}
use Rattle.std.proofs.lemmas.List.{length-map}
use Rattle.std.specs.Vec.{with_item}
use Rattle.css_cascade.specs.declared.buckets.Buckets.{Buckets}
use Rattle.css_cascade.specs.steps.Buckets.{IsWordOfLast, bucket_of, numbered}
use Rattle.css_cascade.proofs.Standing.{any_default, named_more, others_more, one_more}
use Rattle.css_cascade.proofs.buckets.Buckets.put.Goals as goal

pub returns-in_ok-push-in-Some-clause-stand : goal.returns-in_ok-push-in-Some-clause-stand
returns-in_ok-push-in-Some-clause-stand c =
    let new : Buckets = record { candidates = c.push.new.self; named = with_item c.args.self.now.named c.bucket_of.result c.push-in-Some.new.self; others = c.args.self.now.others } in
    named_more c.args.self.now new (c.args.rules, c.args.ranked.now) c.in-Some.word.now c.bucket_of.result c.len-number.result
    (subst (λ ps. IsWordOfLast ps c.in-Some.word.now) c.as_slice.ensures c.in-Some.ensures)
    (c.bucket_of.ensures.is ∙ ap bucket_of c.as_str.ensures)
    (subst (λ n. c.bucket_of.result < n) (sym c.requires) c.bucket_of.ensures.within)
    (c.len-number.ensures ∙ c.args.self.now.candidates.ok.0 ∙ sym (length-map c.args.self.now.candidates.items numbered))
    (one_more c.args.self.now.candidates.items c.push.new.self.items _ c.in_ok-push.ensures.items)
    refl
    (ap (set c.args.self.now.named.items c.bucket_of.result) (c.in_ok-push-in-Some.ensures.ok ∙ ap (λ xs. xs ++ c.len-number.result ∷ [])
    (c.index_mut.ensures.value ∙ any_default c.args.self.now.named.items c.bucket_of.result c.index_mut.result.now [] (subst (λ n. c.bucket_of.result < n) (sym c.requires) c.bucket_of.ensures.within))))

pub returns-in_ok-push-in-None-clause-stand : goal.returns-in_ok-push-in-None-clause-stand
returns-in_ok-push-in-None-clause-stand c =
    let new : Buckets = record { candidates = c.push.new.self; named = c.args.self.now.named; others = c.push-in-None.new.self } in
    others_more c.args.self.now new (c.args.rules, c.args.ranked.now) c.len-number.result
    (c.len-number.ensures ∙ c.args.self.now.candidates.ok.0 ∙ sym (length-map c.args.self.now.candidates.items numbered))
    (one_more c.args.self.now.candidates.items c.push.new.self.items _ c.in_ok-push.ensures.items)
    c.in_ok-push-in-None.ensures.ok
    refl
