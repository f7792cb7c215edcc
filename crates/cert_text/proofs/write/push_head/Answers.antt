use Rattle.std.proofs.Common.{◌≡◌, ℕ, pos, List, [], ◌∷◌, ◌++◌, codes, append_assoc}
use Rattle.std.specs.List.{concat}
use Rattle.std.proofs.lemmas.List.{append-nil}
use Rattle.hex.specs.Hex.{encode_lower}
use Rattle.cert_text.specs.steps.Write.{int_bytes}
use Rattle.cert_text.proofs.write.push_head.Goals as goal

-- five parts pushed one after another
pushed_five : (t0 t1 t2 t3 t4 t5 a b c d e : List ℕ) → t1 ≡ t0 ++ a → t2 ≡ t1 ++ b → t3 ≡ t2 ++ c → t4 ≡ t3 ++ d → t5 ≡ t4 ++ e → t5 ≡ t0 ++ concat (a ∷ b ∷ c ∷ d ∷ e ∷ [])
pushed_five t0 t1 t2 t3 t4 t5 a b c d e e1 e2 e3 e4 e5 = rw (e5, e4, e3, e2, e1) (simp (append_assoc, append-nil))

pub returns : goal.returns
returns c =
    let digits = rw c.digits_of-digits.ensures at c.in_ok-extend_from_slice-3.ensures.items in
    pushed_five c.args.text.now.items _ _ _ _ c.extend_from_slice-4.new.self.items (codes "vizlog-cert ") (int_bytes (pos c.args.form)) (codes "\njob ") (encode_lower c.args.job.now) (codes "\n")
    c.in_ok-extend_from_slice.ensures.items c.in_ok-push_form.ensures c.in_ok-extend_from_slice-2.ensures.items digits c.in_ok-extend_from_slice-4.ensures.items
