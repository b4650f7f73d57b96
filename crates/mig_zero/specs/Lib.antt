pub mod Zero
