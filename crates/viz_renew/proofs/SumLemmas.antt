-- The sums of what is kept, one part more.
use Rattle.std.proofs.Common.{◌≡◌, ◌∙◌, ℕ, ◌+◌, ◌<◌, ◌≤◌, List, [], ◌∷◌, ◌++◌, length, take, get_or, sym, ap, subst, arith, take_all}
use Rattle.std.proofs.lemmas.List.{take_more}
use Rattle.viz_base.specs.declared.jobs.Job.{Job}
use Rattle.cert_text.specs.declared.certificate.Cert.{Cert}
use Rattle.viz_renew.specs.declared.counts.Kept.{Kept}
use Rattle.viz_renew.specs.Pieces.{ArePieces}
use Rattle.viz_renew.specs.declared.sums.Sums.{Sums}
use Rattle.viz_renew.specs.Kept.{AddUp, plus}

module _ (jobs : List Job) (certs : List Cert) (n : ℕ) (sums : Sums) (many : length certs ≡ length jobs) (add : AddUp (take n jobs) (take n certs) sums) where
  pub sums_more : (job : Job) (cert : Cert) (kept : Kept) (next : Sums) → n < length jobs → job ≡ get_or jobs n job → cert ≡ get_or certs n cert → ArePieces job cert kept → next ≡ plus sums kept
      → AddUp (take (n + 1) jobs) (take (n + 1) certs) next
  sums_more job cert kept next within job_is cert_is are is =
      let inside : n < length certs = omega arith in
      let jobs_are : take n jobs ++ job ∷ [] ≡ take (n + 1) jobs = ap (λ j. take n jobs ++ j ∷ []) job_is ∙ sym (take_more jobs n job within) in
      let certs_are : take n certs ++ cert ∷ [] ≡ take (n + 1) certs = ap (λ c. take n certs ++ c ∷ []) cert_is ∙ sym (take_more certs n cert inside) in
      subst (λ js. AddUp js (take (n + 1) certs) next) jobs_are
      (subst (λ cs. AddUp (take n jobs ++ job ∷ []) cs next) certs_are
      (subst (AddUp (take n jobs ++ job ∷ []) (take n certs ++ cert ∷ [])) (sym is) (AddUp.more job cert kept add are)))

  pub all_summed : length jobs ≤ n → AddUp jobs certs sums
  all_summed all =
      let most : length certs ≤ n = omega arith in
      subst (λ js. AddUp js certs sums) (take_all n jobs all) (subst (λ cs. AddUp (take n jobs) cs sums) (take_all n certs most) add)
