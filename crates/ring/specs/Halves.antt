-- Two lists one after the other: told apart by the length of the first, and written one after the other. Assumes nothing.
use Rattle.std.specs.Prelude.{◌≡◌, ℕ, ◌+◌, ◌≤◌, List, ◌++◌, length, take, drop}
use Rattle.std.proofs.Common.{sym, ap, ◌∙◌, append_assoc, append-nil, arith, length-append, length-take, length-drop, take-append-drop, take_all, drop-drop}
use borrow.Rule.Slice.PartMut.{put_mid, post_of}
use Rattle.std.proofs.Math.Seq.{take-append_seam, drop-append_seam}
use Rattle.std.proofs.lemmas.List.{drop_all, drop_at, take_at}
use Rattle.ring.specs.Bytes.{over}

module _ {A : Type 0} where
  pub same_front : (a b c d : List A) → length a ≡ length c → a ++ b ≡ c ++ d → a ≡ c
  same_front a b c d long same = sym (take-append_seam a b) ∙ ap (take (length a)) same ∙ ap (λ n. take n (c ++ d)) long ∙ take-append_seam c d

  pub same_back : (a b c d : List A) → length a ≡ length c → a ++ b ≡ c ++ d → b ≡ d
  same_back a b c d long same = sym (drop-append_seam a b) ∙ ap (drop (length a)) same ∙ ap (λ n. drop n (c ++ d)) long ∙ drop-append_seam c d

  -- a buffer that is overwritten whole
  pub over_whole : (front buffer : List A) → length front ≡ length buffer → over front buffer ≡ front
  over_whole front buffer long = ap (λ n. front ++ drop n buffer) long ∙ ap (λ r. front ++ r) (drop_all (length buffer) buffer (omega arith)) ∙ append-nil front

  -- two parts of n cells, written one after the other at the front of a buffer
  pub both-written : (n m k : ℕ) (bs a b first second : List A) → m ≡ n → k ≡ n → n + n ≤ length bs → length a ≡ n → length b ≡ n → first ≡ over a (take m bs) → second ≡ over b (take k (drop n (first ++ post_of 0 m bs))) → put_mid n k (first ++ post_of 0 m bs) second ≡ over (a ++ b) bs
  both-written n m k bs a b first second em ek fits la lb is-first is-second =
      let fa : first ≡ a = is-first ∙ over_whole a (take m bs) (simp length-take (omega arith)) in
      let base : first ++ post_of 0 m bs ≡ a ++ drop m bs = ap (λ x. x ++ drop m bs) fa in
      let rest : drop n (first ++ post_of 0 m bs) ≡ drop m bs = ap (drop n) base ∙ drop_at a (drop m bs) n la in
      let front : take n (first ++ post_of 0 m bs) ≡ a = ap (take n) base ∙ take_at a (drop m bs) n la in
      let sb : second ≡ b = is-second ∙ ap (λ x. over b (take k x)) rest ∙ over_whole b (take k (drop m bs)) (simp (length-take, length-drop) (omega arith)) in
      let past : drop k (drop n (first ++ post_of 0 m bs)) ≡ drop (m + k) bs = ap (drop k) rest ∙ drop-drop k m bs in
      let long : length (a ++ b) ≡ m + k = simp length-append (omega arith) in
      ap (λ x. x ++ (second ++ drop k (drop n (first ++ post_of 0 m bs)))) front
      ∙ ap (λ x. a ++ (x ++ drop k (drop n (first ++ post_of 0 m bs)))) sb
      ∙ ap (λ x. a ++ (b ++ x)) (past ∙ ap (λ x. drop x bs) (sym long))
      ∙ sym (append_assoc a b (drop (length (a ++ b)) bs))

  pub front_of : (n m : ℕ) (a b bs : List A) → m ≡ n → length a ≡ n → a ++ b ≡ bs → a ≡ take m bs
  front_of n m a b bs em la same = sym (take_at a b m (la ∙ sym em)) ∙ ap (take m) same

  pub back_of : (n k : ℕ) (a b bs : List A) → length a ≡ n → length b ≡ k → a ++ b ≡ bs → b ≡ take k (drop n bs)
  back_of n k a b bs la lb same = sym (take_all k b (omega arith)) ∙ ap (take k) (sym (drop_at a b n la) ∙ ap (drop n) same)

  pub both-parts : (n m k : ℕ) (bs : List A) → m ≡ n → length bs ≤ n + k → take m bs ++ take k (drop n bs) ≡ bs
  both-parts n m k bs em long = ap (λ x. take m bs ++ x) (take_all k (drop n bs) (simp length-drop (omega arith))) ∙ ap (λ x. take x bs ++ drop n bs) em ∙ take-append-drop n bs
