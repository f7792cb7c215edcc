-- What reading a certificate piece by piece finds of it.
use Rattle.std.proofs.Common.{◌≡◌, ℕ, zero, suc, ◌+◌, ◌-◌, ◌<◌, ◌≤◌, Bool, true, false, IsTrue, List, [], ◌∷◌, ◌++◌, length, take, Some, None, Ok, Err, refl, sym, ◌∙◌, ◌↔◌, ap, subst, arith, append_assoc, length-append, take-append-drop, length-take-le, take_all, drop}
use Rattle.std.proofs.lemmas.List.{append-nil}
use Rattle.std.proofs.Math.Seq.{take-append_seam, take-append-add}
use Rattle.viz_base.specs.declared.jobs.Job.{Job}
use Rattle.viz_base.proofs.ListLemmas.{all_append}
use Rattle.cert_text.specs.declared.certificate.Cert.{Cert}
use Rattle.cert_text.specs.declared.certificate.Piece.{Piece}
use Rattle.cert_text.specs.declared.certificate.Piece.TheVariants.{Head, Def, Split, Lemma, Void, Grid, Leaf}
use Rattle.cert_text.specs.Texts.{CertText}
use Rattle.cert_text.specs.Fault.{IsNoText}
use Rattle.cert_text.specs.Pieces.{cert_pieces, Reading, HasGiven, IsWhole, IsNext, bytes_of}
use Rattle.cert_text.proofs.Language.{agree_begins}
use Rattle.cert_text.proofs.Certificates.{good_cert}
use Rattle.cert_text.proofs.ReadingLaws.{given_whole}
use Rattle.cert_semantics.specs.Paths.{root}
use Rattle.cert_semantics.specs.Nodes.{Node, nodes_of}
use Rattle.cert_check.specs.declared.verdicts.Verdict.{Verdict}
use Rattle.cert_check.specs.declared.verdicts.Verdict.TheVariants.{Accepted, Rejected}
use Rattle.cert_check.specs.declared.verdicts.Reject.{Reject}
use Rattle.cert_check.specs.declared.verdicts.Reject.TheVariants.{OtherJob}
use Rattle.cert_check.specs.declared.visits.Visits.{Visits}
use Rattle.cert_check.specs.declared.walk.Stop.TheVariants as of_stop
use Rattle.cert_check.specs.declared.bytes.BytesVerdict.{BytesVerdict}
use Rattle.cert_check.specs.declared.bytes.BytesVerdict.TheVariants as of_bytes
use Rattle.cert_check.specs.declared.bytes.Front.TheVariants as of_front
use Rattle.cert_check.specs.Bytes.{IsBytesVerdict, IsFront}
use Rattle.cert_check.specs.Truths.{Holds}
use Rattle.cert_check.specs.Right.{Right, IsPlainlyComputed, AreUnitsAndGrids, IsGood}
use Rattle.cert_check.specs.Verdicts.{Passes, IsCause}
use Rattle.cert_check.specs.steps.Tells.{AllGood, Rejects, Tells}
use Rattle.cert_check.specs.steps.Ways.{path_at}
use Rattle.cert_check.specs.steps.Stream.{own_nodes, paths_below, nodes_by, paths_after, seconds, IsReady, IsDue, HeadsFor, IsHead, IsRejectedFrom, IsFound, IsFoundOfAll, IsReadOn, IsOneMore, IsWalking, of_verdict}
use Rattle.cert_check.proofs.Tellings.{tells_good, tells_first, tells_second, tells_bad, cause_of, accepts, cause_not_right}
use Rattle.cert_check.proofs.PlainUnits.{units_are_plain}
use Rattle.cert_check.proofs.ByPieces.{nodes_cert, nodes_append, nodes_more, after_more, IsNextDue, next_due, given_more, bytes_more, room}

-- ---- the head

head_piece : (cert : Cert) (piece : Piece) (rest more : List Piece) → cert_pieces cert ≡ (piece ∷ rest) ++ more → Head cert.form cert.job ≡ piece
head_piece cert piece rest more is = cc

-- the certificate names the job's digest where its head does
pub named_by : (job : Job) (cert : Cert) (piece : Piece) (rest more : List Piece) → HeadsFor job piece → cert_pieces cert ≡ (piece ∷ rest) ++ more → cert.job ≡ job.digest
named_by job cert piece rest more h is = subst (HeadsFor job) (sym (head_piece cert piece rest more is)) h

-- another certificate's head
pub of_other : (job : Job) (reading : Reading) → IsHead job reading false → IsRejectedFrom job reading OtherJob
of_other job reading h = record {
  given = h.0 ∷ [];
  has = h.1;
  cause = λ cert more is same. h.2 (subst (HeadsFor job) (head_piece cert h.0 [] more is) same);
}

pub head_here : (job : Job) (old new : Reading) (piece : Piece) (is_head : Bool) → IsNext old (Ok (Some piece)) new → HasGiven old [] → (IsTrue is_head ↔ HeadsFor job piece) → IsHead job new is_head
head_here job old new piece true next has same = (piece, given_more old new [] piece next has, same.0 refl)
head_here job old new piece false next has same = (piece, given_more old new [] piece next has, λ h. let e : false ≡ true = same.1 h in absurd (cc))

-- behind the head
pub walks_from : (job : Job) (start now : Reading) (visits : Visits) → bytes_of now ≡ bytes_of start → IsHead job now true → visits.descent.job.now ≡ job → IsDue visits 0 (root job.form ∷ [])
    → IsWalking job start now visits 0
walks_from job start now visits bytes h same due = by_piece h.0 h.1 h.2
  where
    by_piece : (piece : Piece) → HasGiven now (piece ∷ []) → HeadsFor job piece → IsWalking job start now visits 0
    by_piece (Head form digest) has heads = record {
      bytes = bytes;
      given = Head form digest ∷ [];
      has = has;
      head = (Head form digest, [], heads, refl);
      job_is = same;
      good = tt;
      number_is = refl;
      due = due;
    }
    by_piece (Def row d) has heads = absurd heads
    by_piece (Split row) has heads = absurd heads
    by_piece (Lemma row why) has heads = absurd heads
    by_piece (Void why) has heads = absurd heads
    by_piece Grid has heads = absurd heads
    by_piece (Leaf answers) has heads = absurd heads

-- ---- one node more

module _ (job : Job) (start old new : Reading) (visits : Visits) (number : ℕ) (walking : IsWalking job start old visits number) (piece : Piece) (next : IsNext old (Ok (Some piece)) new) where
  due_here : IsNextDue job.form walking.given
  due_here = next_due job.form walking.given piece (next.2 walking.given walking.has)

  stands : IsDue visits number (due_here.path ∷ due_here.others)
  stands = subst (IsDue visits number) due_here.are walking.due

  pub is_ready : IsReady visits number
  is_ready = stands.2

  here_are : paths_after (root job.form ∷ []) walking.given ≡ path_at visits.descent ∷ seconds (path_at visits.descent)
  here_are = due_here.are ∙ (λ i. sym stands.0 i ∷ stands.1 i) ∙ ap (λ p. path_at visits.descent ∷ seconds p) (sym stands.0)

  pub has_room : number + 1 ≤ length (bytes_of start)
  has_room =
      let most = room old new (root job.form ∷ []) walking.given piece next walking.has in
      let same = ap (λ (b : List ℕ). length b) walking.bytes in
      let count = walking.number_is in
      omega (arith, most, same, count)

  abbrev pub own : List Node
  own = own_nodes (path_at visits.descent) piece

  nodes_are : nodes_by (root job.form ∷ []) (walking.given ++ piece ∷ []) ≡ nodes_by (root job.form ∷ []) walking.given ++ own
  nodes_are = nodes_more (root job.form ∷ []) walking.given (path_at visits.descent) (seconds (path_at visits.descent)) here_are piece

  head_more : (first : Piece) × (more : List Piece) × HeadsFor job first × (walking.given ++ piece ∷ [] ≡ first ∷ more)
  head_more = (walking.head.0, walking.head.1 ++ piece ∷ [], walking.head.2, ap (λ ps. ps ++ piece ∷ []) walking.head.3)

  pub walks_on : (after : Visits) (n : ℕ) → after.descent.job.now ≡ visits.descent.job.now → Tells visits.descent.job.now own number (Ok n) → n ≡ number + length own
      → IsDue after n (paths_below (path_at visits.descent) piece ++ seconds (path_at visits.descent)) → IsWalking job start new after n
  walks_on after n same told is due = record {
    bytes = bytes_more old new piece next ∙ walking.bytes;
    given = walking.given ++ piece ∷ [];
    has = given_more old new walking.given piece next walking.has;
    head = head_more;
    job_is = same ∙ walking.job_is;
    good =
        subst (AllGood job) (sym nodes_are)
        (all_append (IsGood job) (nodes_by (root job.form ∷ []) walking.given) own walking.good
        (subst (λ j. AllGood j own) walking.job_is (tells_good visits.descent.job.now own number n told)));
    number_is =
        let count = walking.number_is in
        omega (arith, is, count, ap (λ (l : List Node). length l) nodes_are, length-append (nodes_by (root job.form ∷ []) walking.given) own);
    due = subst (IsDue after n) (sym (after_more (root job.form ∷ []) walking.given (path_at visits.descent) (seconds (path_at visits.descent)) here_are piece)) due;
  }

  pub stops_here : (reject : Reject) → Tells visits.descent.job.now own number (Err (of_stop.Rejected reject)) → IsRejectedFrom job new reject
  stops_here reject told = record {
    given = walking.given ++ piece ∷ [];
    has = given_more old new walking.given piece next walking.has;
    cause = λ cert more is.
        let before = nodes_by (root job.form ∷ []) walking.given in
        let behind = nodes_by (paths_after (root job.form ∷ []) (walking.given ++ piece ∷ [])) more in
        let nodes : nodes_of job.form cert ≡ (before ++ own) ++ behind =
        sym (nodes_cert job.form cert) ∙ ap (nodes_by (root job.form ∷ [])) is ∙ nodes_append (root job.form ∷ []) (walking.given ++ piece ∷ []) more ∙ ap (λ ns. ns ++ behind) nodes_are in
        let here = tells_second job before own 0 number (Err (of_stop.Rejected reject)) (let count = walking.number_is in omega (arith, count)) walking.good (subst (λ j. Tells j own number (Err (of_stop.Rejected reject))) walking.job_is told) in
        let all = tells_first job (before ++ own) behind 0 (of_stop.Rejected reject) here in
        cause_of job cert reject (named_by job cert head_more.0 head_more.1 more head_more.2 (is ∙ ap (λ ps. ps ++ more) head_more.3))
        (subst (λ ns. Rejects job ns 0 reject) (sym nodes) (tells_bad job ((before ++ own) ++ behind) 0 reject all));
  }

-- ---- the end

pub told_good : (job : Job) (nodes : List Node) (n next : ℕ) → AllGood job nodes → Tells job nodes n (Ok next)
unfolding Tells
told_good job nodes n next good = good

found_right : (job : Job) (start now : Reading) (visits : Visits) (number : ℕ) → IsWalking job start now visits number → IsWhole now → IsFound job now Accepted
found_right job start now visits number walking whole = (whole, passes)
  where
    passes : (cert : Cert) → CertText cert now.taken → Passes job cert
    passes cert text =
        let all = given_whole now walking.given cert walking.has text in
        let same = named_by job cert walking.head.0 walking.head.1 [] walking.head.2 (sym all ∙ walking.head.3 ∙ sym (append-nil (walking.head.0 ∷ walking.head.1))) in
        let good = subst (AllGood job) (ap (nodes_by (root job.form ∷ [])) all ∙ nodes_cert job.form cert) walking.good in
        accepts job cert (root job.form) 0 (refl, same, told_good job (nodes_of job.form cert) 0 0 good)

pub ends_right : (job : Job) (start old new : Reading) (visits : Visits) (number : ℕ) → IsWalking job start old visits number → IsNext old (Ok None) new → IsFound job new Accepted
ends_right job start old new visits number walking next = subst (λ r. IsFound job r Accepted) (sym next.0) (found_right job start old visits number walking next.1)

-- a verdict at the end
pub found_all : (job : Job) (reading : Reading) → IsFound job reading Accepted → IsFoundOfAll job reading Accepted
found_all job reading found = (found.0.0, found.0.1, found.1 found.0.0 found.0.1)

pub rejected_all : (job : Job) (old new : Reading) (reject : Reject) → IsRejectedFrom job old reject → IsReadOn old new → IsFoundOfAll job new (Rejected reject)
rejected_all job old new reject from on =
    let behind = on.1 from.given from.has in
    let whole = on.0 in
    (whole.0, whole.1, from.cause whole.0 behind.0 (sym (given_whole new (from.given ++ behind.0) whole.0 behind.1 whole.1)))

-- ---- reading on

-- what was given by an earlier reading, and more
pub record IsLater (old new : Reading) : Type 0 where
  pub bytes : bytes_of new ≡ bytes_of old
  pub more : (given : List Piece) → HasGiven old given → (more : List Piece) × HasGiven new (given ++ more)

pub no_later : (r : Reading) → IsLater r r
no_later r = record { bytes = refl; more = λ given has. ([], subst (HasGiven r) (sym (append-nil given)) has) }

pub one_later : (old mid new : Reading) (piece : Piece) → IsLater old mid → IsNext mid (Ok (Some piece)) new → IsLater old new
one_later old mid new piece later next = record {
  bytes = bytes_more mid new piece next ∙ later.bytes;
  more = λ given has.
      let so_far = later.more given has in
      (so_far.0 ++ piece ∷ [], subst (HasGiven new) (append_assoc given so_far.0 (piece ∷ [])) (given_more mid new (given ++ so_far.0) piece next so_far.1));
}

pub later_by : (old mid new : Reading) → IsLater old mid → IsOneMore mid true new → IsLater old new
later_by old mid new later one = one_later old mid new one.0 later one.1

pub read_on : (old mid new : Reading) → IsLater old mid → IsOneMore mid false new → IsReadOn old new
read_on old mid new later none = subst (IsReadOn old) (sym none.0) (none.1, later.more)

-- ---- bytes behind a certificate's text

pub behind_text : (reading : Reading) → IsWhole reading → length reading.taken < length (bytes_of reading) → IsNoText (bytes_of reading) (length reading.taken)
behind_text reading whole some = record {
  no_text = λ cert text. none (taken_begins cert [] (subst (CertText cert) (sym (append-nil (bytes_of reading)) ∙ append_assoc reading.taken reading.rest []) text));
  within = omega (arith, some);
  begins = (whole.0, [], subst (CertText whole.0) (sym (append-nil (take (length reading.taken) (bytes_of reading)) ∙ take-append_seam reading.taken reading.rest)) whole.1);
  longest = λ n le begins. by_order n le begins;
}
  where
    -- no certificate's text begins with the text that was taken and more
    front : (cert : Cert) (more : List ℕ) → CertText cert (reading.taken ++ more) → more ≡ []
    front cert more text = (agree_begins (whole.0 ≡ cert) reading.taken more (good_cert.plain whole.0 cert reading.taken (reading.taken ++ more) whole.1 text)).0

    taken_begins : (cert : Cert) (more : List ℕ) → CertText cert (reading.taken ++ (reading.rest ++ more)) → reading.rest ++ more ≡ []
    taken_begins cert more = front cert (reading.rest ++ more)

    none : reading.rest ++ [] ≡ [] → ⊥
    none e =
        let size = ap (λ (l : List ℕ). length l) e in
        absurd (omega (arith, some, size, length-append reading.rest [], length-append reading.taken reading.rest))

    by_order : (n : ℕ) → n ≤ length (bytes_of reading) → (cert : Cert) × (more : List ℕ) × CertText cert (take n (bytes_of reading) ++ more) → n ≤ length reading.taken
    by_order n le begins = by_test (n - length reading.taken) refl
      where
        some_left : (k : ℕ) (rest : List ℕ) → suc k ≤ length rest → (more : List ℕ) → take (suc k) rest ++ more ≡ [] → ⊥
        some_left k [] le more e = absurd (omega (arith, le))
        some_left k (x ∷ rest) le more e = absurd (cc)

        by_test : (k : ℕ) → n - length reading.taken ≡ k → n ≤ length reading.taken
        by_test zero e = omega (arith, e)
        by_test (suc k) e =
            let same : length reading.taken + suc k ≡ n = omega (arith, e) in
            let cut : take n (bytes_of reading) ≡ reading.taken ++ take (suc k) reading.rest = ap (λ m. take m (bytes_of reading)) (sym same) ∙ take-append-add reading.taken reading.rest (suc k) in
            let text = subst (CertText begins.0) (ap (λ t. t ++ begins.1) cut ∙ append_assoc reading.taken (take (suc k) reading.rest) begins.1) begins.2 in
            absurd (some_left k reading.rest (omega (arith, same, le, length-append reading.taken reading.rest)) begins.1 (front begins.0 (take (suc k) reading.rest ++ begins.1) text))

-- ---- at the front of bytes

pub front_judged : (job : Job) (reading : Reading) (verdict : Verdict) → IsFoundOfAll job reading verdict → (bytes : List ℕ) → bytes_of reading ≡ bytes
    → (n : ℕ) → n ≡ length reading.taken → IsFront job bytes (of_front.Judged verdict n)
front_judged job reading verdict h bytes is n at =
    let all : IsFront job (bytes_of reading) (of_front.Judged verdict (length reading.taken)) =
    (omega (arith, length-append reading.taken reading.rest), (h.0, subst (CertText h.0) (sym (take-append_seam reading.taken reading.rest)) h.1, h.2)) in
    subst (λ m. IsFront job bytes (of_front.Judged verdict m)) (sym at) (subst (λ b. IsFront job b (of_front.Judged verdict (length reading.taken))) is all)

-- with more behind it
pub front_behind : (job : Job) (bytes : List ℕ) (verdict : Verdict) (n : ℕ) → IsFront job bytes (of_front.Judged verdict n) → n < length bytes → IsNoText bytes n
front_behind job bytes verdict n h some =
    let reading : Reading = record { taken = take n bytes; rest = drop n bytes } in
    let all : bytes_of reading ≡ bytes = take-append-drop n bytes in
    let size : length reading.taken ≡ n = length-take-le n bytes h.0 in
    let count = ap (λ (l : List ℕ). length l) all in
    subst (λ m. IsNoText bytes m) size (subst (λ b. IsNoText b (length reading.taken)) all (behind_text reading (h.1.0, h.1.1) (omega (arith, some, size, count))))

-- with nothing behind it
pub front_all : (job : Job) (bytes : List ℕ) (verdict : Verdict) (n : ℕ) → IsFront job bytes (of_front.Judged verdict n) → length bytes ≤ n → IsBytesVerdict job bytes (of_verdict verdict)
front_all job bytes Accepted n h le = (h.1.0, subst (CertText h.1.0) (take_all n bytes le) h.1.1, h.1.2)
front_all job bytes (Rejected reject) n h le = (h.1.0, subst (CertText h.1.0) (take_all n bytes le) h.1.1, h.1.2)

-- as `at_end` has it
pub at_end_is : (job : Job) (bytes : List ℕ) (verdict : Verdict) (n count : ℕ) (found : BytesVerdict) → IsFront job bytes (of_front.Judged verdict n) → count ≡ length bytes
    → (n < count → found ≡ of_bytes.Grammar n) → (count ≤ n → found ≡ of_verdict verdict) → IsBytesVerdict job bytes found
at_end_is job bytes verdict n count found h is behind all = by_test (length bytes - n) refl
  where
    by_test : (k : ℕ) → length bytes - n ≡ k → IsBytesVerdict job bytes found
    by_test zero e = subst (IsBytesVerdict job bytes) (sym (all (omega (arith, e, is)))) (front_all job bytes verdict n h (omega (arith, e)))
    by_test (suc k) e = subst (IsBytesVerdict job bytes) (sym (behind (omega (arith, e, is)))) (front_behind job bytes verdict n h (omega (arith, e)))

-- ---- the verdict on bytes

one_cert : (first second : Cert) (text : List ℕ) → CertText first text → CertText second text → first ≡ second
one_cert first second text h k = (agree_begins (first ≡ second) text [] (good_cert.plain first second text (text ++ []) h (subst (CertText second) (sym (append-nil text)) k))).1

pub exactly : (job : Job) (bytes : List ℕ) (verdict : BytesVerdict) → IsBytesVerdict job bytes verdict → (cert : Cert) → CertText cert bytes → IsPlainlyComputed job cert → (verdict ≡ of_bytes.Accepted) ↔ Right job cert
exactly job bytes of_bytes.Accepted h cert text plain = (λ e. (subst (Passes job) (one_cert h.0 cert bytes h.1 text) h.2).right, λ right. refl)
exactly job bytes (of_bytes.Rejected reject) h cert text plain =
    (λ e. absurd (cc), λ right. absurd (cause_not_right job cert reject (subst (λ c. IsCause job c reject) (one_cert h.0 cert bytes h.1 text) h.2) plain right))
exactly job bytes (of_bytes.Grammar at) h cert text plain = (λ e. absurd (cc), λ right. absurd (h.no_text cert text))

pub exact_units : (job : Job) (bytes : List ℕ) (verdict : BytesVerdict) → IsBytesVerdict job bytes verdict → (cert : Cert) → CertText cert bytes → AreUnitsAndGrids job cert → (verdict ≡ of_bytes.Accepted) ↔ Right job cert
exact_units job bytes verdict h cert text are = exactly job bytes verdict h cert text (units_are_plain job cert bytes text are)

pub accepted_holds : (job : Job) (bytes : List ℕ) (verdict : BytesVerdict) → IsBytesVerdict job bytes verdict → verdict ≡ of_bytes.Accepted → Holds job
accepted_holds job bytes of_bytes.Accepted h e = h.2.holds
accepted_holds job bytes (of_bytes.Rejected reject) h e = absurd (cc)
accepted_holds job bytes (of_bytes.Grammar at) h e = absurd (cc)
