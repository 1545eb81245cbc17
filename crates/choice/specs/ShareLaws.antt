-- A node's share: the first group with enough, and a penalty exactly where none has.
use Rattle.std.specs.Prelude.{◌≡◌, true, false, List, ℕ, ◌≤◌, ◌<◌, length, take}
use Rattle.std.proofs.Common.{arith, length-take-le}
use borrow.Author.Tests.{leb-true, leb-false}
use Rattle.laws.specs.Tests.{split, fails}
use Rattle.laws.specs.Sort.{only_keeps}
use Rattle.laws.specs.Lists.{All, Distinct, all_take, distinct_take}
use Rattle.laws.specs.Search.{first, first_range, first_has, first_before}
use Rattle.eligible.specs.Chosen.{keyed, with_key, count_of, tally_of}
use Rattle.eligible.specs.Turns.{tally_at}
use Rattle.fit.specs.Group.{counted}
use Rattle.fit.specs.Right.{key_distinct}
use Rattle.choice.specs.Share.{holds, share_group, parted, share}

module _ (groups here : List ℕ) (per : ℕ) where
  -- a group before the one chosen has too few
  pub group_before : (k : ℕ) → k < share_group groups per here → count_of groups here k < per
  unfolding share_group
  group_before k h =
      let b : k < 257 = omega (arith, (first_range (holds (tally_of groups here) per) 257 0).1) in
      rw (← tally_at groups here k b) (leb-false per (counted (tally_of groups here) k) (first_before (holds (tally_of groups here) per) 257 0 k (omega arith) h))

  -- the one chosen has enough
  pub group_has : parted groups per here ≡ false → (share_group groups per here < 257) × (per ≤ count_of groups here (share_group groups per here))
  unfolding parted share_group
  group_has h =
      let b : first (holds (tally_of groups here) per) 257 0 < 257 = leb-false 257 (first (holds (tally_of groups here) per) 257 0) h in (
        b,
        rw (← tally_at groups here (first (holds (tally_of groups here) per) 257 0) b)
            (leb-true per (counted (tally_of groups here) (first (holds (tally_of groups here) per) 257 0))
            (first_has (holds (tally_of groups here) per) 257 0 (omega arith))),
      )

  -- a penalty says that no group has enough
  pub parted_none : parted groups per here ≡ true → (k : ℕ) → k < 257 → count_of groups here k < per
  unfolding parted
  parted_none h k b = group_before k (omega (arith, leb-true 257 (share_group groups per here) h))

  -- and a group with enough spares it
  pub parted_spared : (k : ℕ) → k < 257 → per ≤ count_of groups here k → parted groups per here ≡ false
  parted_spared k b n = fails (parted groups per here) (λ h. omega (arith, parted_none h k b))

  -- without a penalty the share is the first per of one group
  pub share_whole : parted groups per here ≡ false → share groups per here ≡ take per (with_key groups (share_group groups per here) here)
  unfolding share
  share_whole h = rw h

  -- with one it is the node's first per
  pub share_parted : parted groups per here ≡ true → share groups per here ≡ take per here
  unfolding share
  share_parted h = rw h

  -- it has per GPUs
  pub share_size : per ≤ length here → length (share groups per here) ≡ per
  unfolding count_of
  share_size n =
      split
      (parted groups per here)
      (λ e. rw (share_parted e) (length-take-le per here n))
      (λ e. rw (share_whole e) (length-take-le per (with_key groups (share_group groups per here) here) (group_has e).1))

  -- what holds of each of the node's holds of each of the share
  pub share_all : (P : ℕ → Type 0) → All P here → All P (share groups per here)
  unfolding with_key
  share_all P h =
      split
      (parted groups per here)
      (λ e. rw (share_parted e) (all_take P per here h))
      (λ e. rw (share_whole e) (all_take P per (with_key groups (share_group groups per here) here) (only_keeps P (keyed groups (share_group groups per here)) here h)))

  -- none stands in it twice
  pub share_distinct : Distinct here → Distinct (share groups per here)
  share_distinct h =
      split
      (parted groups per here)
      (λ e. rw (share_parted e) (distinct_take per here h))
      (λ e. rw (share_whole e) (distinct_take per (with_key groups (share_group groups per here) here) (key_distinct groups here (share_group groups per here) h)))
