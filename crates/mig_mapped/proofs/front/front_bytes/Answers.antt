use Rattle.std.proofs.Common.{◌≡◌, ◌+◌, ◌++◌, ◌∷◌, [], List, ℕ, length, ap, ap₂, ◌∙◌, rules}
use Rattle.mig_stream.specs.Fields.{be32, be64, counted}
use Rattle.mig_stream.specs.Format.{configuration_type, subsection_name, mapped_ram}
use Rattle.mig_stream.specs.Text.{file_header, start_head}
use Rattle.mig_mapped.proofs.FrontPlain.{list_head}
use Rattle.mig_mapped.proofs.FrontAdded.{alone_spelled}
use Rattle.mig_mapped.proofs.front.front_bytes.Goals as goal

pub returns-clause-bytes : goal.returns-clause-bytes
unfolding file_header subsection_name mapped_ram
returns-clause-bytes g c =
    let m : List ℕ = c.args.machine.now in
    let h : List ℕ = file_header ++ configuration_type ∷ [] in
    let n : List ℕ = be32 (length m) in
    let one : List ℕ = be32 1 ++ counted mapped_ram in
    let s : List ℕ = start_head 1 in
    let b : List ℕ = be64 (c.args.total + 4) in
    let number : c.to_be_bytes.result ≡ n = search rules in
    let total : c.to_be_bytes-2.result ≡ b = search rules in
    let first : c.extend_from_slice.new.self.items ≡ h = c.in_ok-extend_from_slice.ensures.items ∙ ap (λ (l : List ℕ). l ++ h) c.new-front.ensures.items in
    let second : c.extend_from_slice-2.new.self.items ≡ h ++ n = c.in_ok-extend_from_slice-2.ensures.items ∙ ap₂ (λ (x y : List ℕ). x ++ y) first number in
    let third : c.extend_from_slice-3.new.self.items ≡ h ++ n ++ m = c.in_ok-extend_from_slice-3.ensures.items ∙ ap (λ (l : List ℕ). l ++ m) second in
    let fourth : c.extend_from_slice-4.new.self.items ≡ h ++ n ++ m ++ list_head =
    c.in_ok-extend_from_slice-4.ensures.items ∙ ap (λ (l : List ℕ). l ++ list_head) third in
    let fifth : c.extend_from_slice-5.new.self.items ≡ h ++ n ++ m ++ list_head ++ one =
    c.in_ok-extend_from_slice-5.ensures.items ∙ ap (λ (l : List ℕ). l ++ one) fourth in
    let sixth : c.extend_from_slice-6.new.self.items ≡ h ++ n ++ m ++ list_head ++ one ++ s =
    c.in_ok-extend_from_slice-6.ensures.items ∙ ap (λ (l : List ℕ). l ++ s) fifth in
    c.in_ok-extend_from_slice-7.ensures.items ∙ ap₂ (λ (x y : List ℕ). x ++ y) sixth total ∙ alone_spelled m c.args.total
